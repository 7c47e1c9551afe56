-- Connections of one user, whose calls are a history of that user's cache: the machine of the user alone says to each what it
-- was told.
use Rattle.std.specs.Prelude.{◌==◌, map, filter, option_map}
use Rattle.std.specs.List.{AllByRecursion as Each}
use Rattle.std.proofs.Common.{◌≡◌, ℕ, true, false, cond, ◌⊎◌, inl, inr, List, [], ◌∷◌, ◌++◌, Option, Some, refl, sym}
use Rattle.std.proofs.Common.{◌∙◌, ap, subst, eq-eqb, append_assoc}
use Rattle.std.proofs.lemmas.Bool.{cases_Bool, eqb-true, eqb-false}
use Rattle.tc_model.specs.Caching.{Event, Replays}
use Rattle.tc_model.specs.Connection.{Endpoint, Open, user_at, new_endpoint, is_closed}
use Rattle.tc_model.specs.Server.{Machine, Connection, Step, On, World, numbered, step, calls_of, course_from, steps_from}
use Rattle.tc_model.specs.Server.{first_world, solo, sent}
use Rattle.tc_model.specs.Server.{binds_from, is_of}
use Rattle.tc_laws.specs.Numbers.{IsAmong as In, AreDistinct as Distinct, AreOf}
use Rattle.tc_laws.proofs.Merging.{AllKnown, Merged, merged, calls_in, calls_at, not_eqb}
use Rattle.tc_laws.proofs.Running.{DeedOf, AllFit, events_of, steps_of, Ready, comes, makes}
use Rattle.tc_laws.proofs.Opening.{opens, first_connection, steps_at, own-steps, all-steps, Opened, opened-all}
use Rattle.tc_laws.proofs.Alone.{alone_phase, closed-alone, fits-alone}

-- steps after steps
steps_from-append : (M : Machine) (rows : List M.protocol.Row) (xs ys : List Step) (w : World M)
    → steps_from M rows w (xs ++ ys) ≡ steps_from M rows (steps_from M rows w xs) ys
steps_from-append M rows [] ys w = refl
steps_from-append M rows (x ∷ xs) ys w = steps_from-append M rows xs ys (step M rows w x)

history-append : (M : Machine) (rows : List M.protocol.Row) (xs ys : List Step) (w : World M)
    → (course_from M rows w (xs ++ ys)).history
    ≡ (course_from M rows w xs).history ++ (course_from M rows (steps_from M rows w xs) ys).history
history-append M rows [] ys w = refl
history-append M rows (x ∷ xs) ys w =
    ap (λ es. calls_of M rows w x ++ es) (history-append M rows xs ys (step M rows w x))
    ∙ sym (append_assoc (calls_of M rows w x) (course_from M rows (step M rows w x) xs).history
    (course_from M rows (steps_from M rows (step M rows w x) xs) ys).history)

module _ (M : Machine) where
  -- a connection: its deeds since it was opened, what it is in the end, and what it was told
  pub record Story : Type 0 where
    pub conn : ℕ
    pub deeds : List (DeedOf M)
    pub endpoint : Endpoint M.protocol
    pub said : List ℕ

  abbrev pub conns_of : List Story → List ℕ
  conns_of stories = map (λ s. s.conn) stories

  -- what each connection does, and where it comes
  abbrev pub Part : Type 0
  Part = List (DeedOf M) × Connection M

module _ (M : Machine) (rows : List M.protocol.Row) (u : ℕ) where
  -- its own steps are such, and bind it to the user
  pub record IsStory (s : Story M) : Type 0 where
    pub fits : AllFit M rows u (new_endpoint M.protocol) s.deeds s.endpoint s.said
    pub binds : binds_from M.protocol rows u s.conn (Some (new_endpoint M.protocol)) (steps_at M s.conn s.deeds) ≡ true

-- of the first of these with this number, else another one
picked : {S A : Type 0} (conn : S → ℕ) (f : S → A) (other : A) → List S → ℕ → A
picked conn f other [] c = other
picked conn f other (s ∷ ss) c = cond (conn s == c) (f s) (picked conn f other ss c)

picked-has : {S A : Type 0} (conn : S → ℕ) (f : S → A) (other : A) (P : ℕ → A → Type 0) (ss : List S)
    → Each (λ s. P (conn s) (f s)) ss → (c : ℕ) → In c (map conn ss) → P c (picked conn f other ss c)
unfolding picked
picked-has conn f other P [] each c i = absurd i
picked-has conn f other P (s ∷ ss) each c i = go (cases_Bool (conn s == c)) i (picked-has conn f other P ss each.1 c)
  where
    go : ((conn s == c) ≡ true) ⊎ ((conn s == c) ≡ false) → In c (conn s ∷ map conn ss)
        → (In c (map conn ss) → P c (picked conn f other ss c)) → P c (cond (conn s == c) (f s) (picked conn f other ss c))
    go (inl e) i later = rw e (subst (λ d. P d (f s)) (eqb-true (conn s) c e) each.0)
    go (inr e) (inl same) later = absurd (eqb-false (conn s) c e same)
    go (inr e) (inr j) later = rw e (later j)

picked-own : {S A : Type 0} (conn : S → ℕ) (f : S → A) (other : A) (ss : List S) → Distinct (map conn ss)
    → Each (λ s. picked conn f other ss (conn s) ≡ f s) ss
unfolding picked
picked-own conn f other [] apart = tt
picked-own conn f other (s ∷ ss) apart = (
  rw (eq-eqb (conn s) (conn s) refl) refl,
  behind ss (λ t i. not_eqb (conn t) (conn s) (λ e. apart.0 (subst (λ d. In d (map conn ss)) (sym e) i)))
      (picked-own conn f other ss apart.1),
)
  where
    behind : (ts : List _) → ((t : _) → In (conn t) (map conn ts) → (conn s == conn t) ≡ false)
        → Each (λ t. picked conn f other ss (conn t) ≡ f t) ts
        → Each (λ t. cond (conn s == conn t) (f s) (picked conn f other ss (conn t)) ≡ f t) ts
    behind [] ne each = tt
    behind (t ∷ ts) ne each = (rw (ne t (inl refl)) each.0, behind ts (λ x i. ne x (inr i)) each.1)

-- each of these, knowing that its number is one of theirs
each-known : {S : Type 0} (conn : S → ℕ) (P Q : S → Type 0) (ss : List S) → ((s : S) → In (conn s) (map conn ss) → P s → Q s)
    → Each P ss → Each Q ss
each-known conn P Q [] f each = tt
each-known conn P Q (s ∷ ss) f each =
    (f s (inl refl) each.0, each-known conn P Q ss (λ t i. f t (inr i)) each.1)

-- a machine of one user, and what it says to connections: its steps are theirs, and the clock's, and its calls are these
pub record Retold (M : Machine) (row : M.protocol.Row) (stories : List (Story M)) (log : List (ℕ × Event M.Command M.Outcome))
    : Type 0 where
  pub steps : List Step
  pub theirs : AreOf (conns_of M stories) steps
  pub own : Each (λ s. filter (is_of s.conn) steps ≡ On s.conn Open ∷ steps_at M s.conn s.deeds) stories
  pub told : Each (λ s. sent M (solo M row steps) s.conn ≡ Some (is_closed s.endpoint.phase, s.said)) stories
  pub history : (solo M row steps).history ≡ map (λ x. x.1) log

module _ (M : Machine) (rows : List M.protocol.Row) (u : ℕ) (row : M.protocol.Row) (at : user_at rows u ≡ Some row)
    (stories : List (Story M)) (log : List (ℕ × Event M.Command M.Outcome)) where
  abbrev number : Story M → ℕ
  number s = s.conn

  abbrev cs : List ℕ
  cs = conns_of M stories

  abbrev alone_rows : List M.protocol.Row
  alone_rows = row ∷ []

  -- a story as the machine of its user alone has it
  abbrev part : Story M → Part M
  part s = (
    s.deeds,
    record { endpoint = record { phase = alone_phase s.endpoint.phase; reader = s.endpoint.reader }; out = s.said },
  )

  part_at : ℕ → Part M
  part_at = picked number part ([], first_connection M alone_rows) stories

  deeds : ℕ → List (DeedOf M)
  deeds c = (part_at c).0

  goal : ℕ → Connection M
  goal c = (part_at c).1

  IsPart : ℕ → Part M → Type 0
  IsPart c p = AllFit M alone_rows 1 (new_endpoint M.protocol) p.0 p.1.endpoint p.1.out

  are-parts : (ss : List (Story M)) → Each (IsStory M rows u) ss → Each (λ s. IsPart s.conn (part s)) ss
  unfolding IsPart
  are-parts [] each = tt
  are-parts (s ∷ ss) each = (
    fits-alone M rows u row at s.conn (new_endpoint M.protocol) s.deeds s.endpoint s.said each.0.binds each.0.fits,
    are-parts ss each.1,
  )

  abbrev first : World M
  first = first_world M alone_rows

  abbrev opened : World M
  opened = steps_from M alone_rows first (opens cs)

  is-opened : Opened M alone_rows cs first opened
  is-opened = opened-all M alone_rows cs first (λ c. inl refl)

  ready : (m : Merged cs deeds log) → Each (IsStory M rows u) stories → Replays M.cache 0 (M.fresh row) (map (λ x. x.1) log)
      → Ready M alone_rows 1 cs goal opened m.order
  unfolding deeds goal part_at IsPart
  ready m are gives = record {
    here = λ c i. record {
      q = first_connection M alone_rows;
      there = is-opened.here c i;
      said = (goal c).out;
      fits =
          subst (λ (ds : List (DeedOf M)). AllFit M alone_rows 1 (new_endpoint M.protocol) ds (goal c).endpoint (goal c).out)
          (sym (m.own c i))
          (picked-has number part ([], first_connection M alone_rows) IsPart stories (are-parts stories are) c i);
      whole = refl;
    };
    cache = M.fresh row;
    held = ap (λ (ks : List M.cache.State). user_at ks 1) is-opened.caches;
    gives =
        subst (λ n. Replays M.cache n (M.fresh row) (events_of M m.order)) (sym is-opened.clock)
        (subst (λ (xs : List (ℕ × Event M.Command M.Outcome)). Replays M.cache 0 (M.fresh row) (map
        (λ x. x.1) xs)) (sym m.calls) gives);
  }

  pub retold : Distinct cs → Each (IsStory M rows u) stories → Each (λ s. calls_in s.deeds ≡ calls_at s.conn log) stories
      → AllKnown cs log → Replays M.cache 0 (M.fresh row) (map (λ x. x.1) log) → Retold M row stories log
  unfolding deeds goal part_at
  retold apart are calls known gives =
      let m : Merged cs deeds log =
      merged cs deeds log apart known
      (picked-has number part ([], first_connection M alone_rows) (λ c p. calls_in p.0 ≡ calls_at c log) stories calls) in
      let steps : List Step = opens cs ++ steps_of M m.order in
      let is : Ready M alone_rows 1 cs goal opened m.order = ready m are gives in
      let mine = picked-own number part ([], first_connection M alone_rows) stories apart in
      record {
        steps = steps;
        theirs = all-steps M cs m.order m.among;
        own =
            each-known number (λ s. part_at s.conn ≡ part s)
            (λ s. filter (is_of s.conn) steps ≡ On s.conn Open ∷ steps_at M s.conn s.deeds) stories
            (λ s i same. own-steps M s.conn cs m.order apart i
            ∙ ap (λ (ds : List (DeedOf M)). On s.conn Open ∷ steps_at M s.conn ds)
            (m.own s.conn i ∙ ap (λ (p : Part M). p.0) same))
            mine;
        told =
            each-known number (λ s. part_at s.conn ≡ part s)
            (λ s. sent M (solo M row steps) s.conn ≡ Some (is_closed s.endpoint.phase, s.said)) stories
            (λ s i same. ap (λ (q : Option (Connection M)). option_map (λ l. (is_closed l.endpoint.phase, l.out)) q)
            (ap (λ (w : World M). numbered s.conn w.connections)
            (steps_from-append M alone_rows (opens cs) (steps_of M m.order) first)
            ∙ comes M alone_rows 1 cs goal m.order opened m.among is s.conn i
            ∙ ap (λ (p : Part M). Some p.1) same)
            ∙ ap (λ b. Some (b, s.said)) (closed-alone s.endpoint.phase))
            mine;
        history =
            history-append M alone_rows (opens cs) (steps_of M m.order) first
            ∙ ap (λ (es : List (Event M.Command M.Outcome)). es ++ (course_from M alone_rows opened (steps_of M m.order)).history)
            is-opened.none
            ∙ makes M alone_rows 1 cs goal m.order opened m.among is
            ∙ ap (λ (xs : List (ℕ × Event M.Command M.Outcome)). map (λ x. x.1) xs) m.calls;
      }
