-- A machine that makes the deeds of connections in one order says to each what its deeds say.
use Rattle.std.specs.Prelude.{◌==◌, map, max, slice_set}
use Rattle.std.proofs.Common.{◌≡◌, ◌≢◌, ℕ, zero, suc, ◌≤◌, true, false, ◌⊎◌, inl, inr, List, [], ◌∷◌, ◌++◌, Some, refl, sym}
use Rattle.std.proofs.Common.{◌∙◌, ap, subst, eq-eqb, append_assoc, arith, slice_get}
use Rattle.std.proofs.lemmas.Bool.{eqb-true, eqb-false, cases_Bool}
use Rattle.std.proofs.lemmas.Bool.Decides.{nat_tests}
use Rattle.std.proofs.lemmas.List.{append-nil}
use Rattle.tc_model.specs.Caching.{Event, Replays}
use Rattle.tc_model.specs.Connection.{Endpoint, Happening, Open, Piece, Act, Shut, user_at, with_user, Want, Nothing, Said, Call}
use Rattle.tc_model.specs.Connection.{Close, turn, endpoint_after}
use Rattle.tc_model.specs.Server.{Machine, Connection, Step, On, Tick, World, numbered, with_numbered, Effect, quiet_effect}
use Rattle.tc_model.specs.Server.{said_effect, want_effect, call_effect, effect, step, world_with, steps_from, course_from}
use Rattle.tc_model.specs.Server.{calls_of}
use Rattle.tc_laws.specs.Numbers.{IsAmong as In}
use Rattle.tc_laws.proofs.Merging.{Deed, Silent, Calls, deeds_at, all_called, AllIn}

pub numbered-same : {L : Type 0} (c : ℕ) (l : L) (es : List (ℕ × L)) → numbered c (with_numbered c l es) ≡ Some l
numbered-same c l [] = grind (arith, nat_tests)
numbered-same c l (e ∷ es) = grind (arith, nat_tests, numbered-same c l es)

pub numbered-other : {L : Type 0} (c d : ℕ) (l : L) (es : List (ℕ × L)) → c ≢ d
    → numbered c (with_numbered d l es) ≡ numbered c es
numbered-other c d l [] ne = grind (arith, nat_tests)
numbered-other c d l (e ∷ es) ne = grind (arith, nat_tests, numbered-other c d l es ne)

slice_get-slice_set : {A : Type 0} (xs : List A) (i : ℕ) (x y : A) → slice_get xs i ≡ Some y
    → slice_get (slice_set xs i x) i ≡ Some x
slice_get-slice_set [] i x y h = grind arith
slice_get-slice_set (a ∷ xs) zero x y h = refl
slice_get-slice_set (a ∷ xs) (suc i) x y h = slice_get-slice_set xs i x y h

user_at-set : {A : Type 0} (xs : List A) (u : ℕ) (x y : A) → user_at xs u ≡ Some y → user_at (with_user xs u x) u ≡ Some x
user_at-set xs zero x y h = grind arith
user_at-set xs (suc i) x y h = slice_get-slice_set xs i x y h

module _ (M : Machine) where
  abbrev pub DeedOf : Type 0
  DeedOf = Deed (Event M.Command M.Outcome)

  abbrev pub happening_at : DeedOf → Happening
  happening_at (Silent x) = x
  happening_at (Calls v) = Act

  -- the steps of deeds: a call is made at its moment
  abbrev pub step_of : ℕ → DeedOf → List Step
  step_of c (Silent x) = On c x ∷ []
  step_of c (Calls v) = Tick v.moment ∷ On c Act ∷ []

  abbrev pub steps_of : List (ℕ × DeedOf) → List Step
  steps_of [] = []
  steps_of (s ∷ ss) = step_of s.0 s.1 ++ steps_of ss

  -- the calls of deeds, in their order
  abbrev pub events_of : List (ℕ × DeedOf) → List (Event M.Command M.Outcome)
  events_of ss = map (λ x. x.1) (all_called ss)

  -- a connection that has come to this
  abbrev pub reached : Connection M → Endpoint M.protocol → List ℕ → Connection M
  reached q next said = record { endpoint = next; out = q.out ++ said }

  -- the world once a connection has come to this
  abbrev pub world_of : ℕ → List M.cache.State → List (ℕ × Connection M) → ℕ → Connection M → World M
  world_of clock caches connections c q = record {
    clock = clock;
    caches = caches;
    connections = with_numbered c q connections;
  }

module _ (M : Machine) (rows : List M.protocol.Row) (u : ℕ) where
  -- nothing of a cache is wanted
  abbrev pub NeedsNone : Want M.Command → Type 0
  NeedsNone Nothing = Unit {0}
  NeedsNone Said = Unit {0}
  NeedsNone (Call user command) = ⊥
  NeedsNone Close = Unit {0}

  -- what is said where no call is made
  abbrev pub SaysSilent : Endpoint M.protocol → Happening → List ℕ → Type 0
  SaysSilent e Open said = said ≡ []
  SaysSilent e (Piece piece) said = said ≡ []
  SaysSilent e Act said = NeedsNone (turn M.protocol rows e).want × (said ≡ (turn M.protocol rows e).said)
  SaysSilent e Shut said = said ≡ []

  -- what is said at a deed
  abbrev pub SaysAt : Endpoint M.protocol → DeedOf M → List ℕ → Type 0
  SaysAt e (Silent x) said = SaysSilent e x said
  SaysAt e (Calls v) said =
      ((turn M.protocol rows e).want ≡ Call u v.command)
      × (said ≡ (turn M.protocol rows e).said ++ M.protocol.render v.command v.outcome)

  pub record Fits (e : Endpoint M.protocol) (d : DeedOf M) (next : Endpoint M.protocol) (said : List ℕ) : Type 0 where
    pub steps : endpoint_after M.protocol rows (happening_at M d) (Some e) ≡ Some next
    pub says : SaysAt e d said

  abbrev pub AllFit : Endpoint M.protocol → List (DeedOf M) → Endpoint M.protocol → List ℕ → Type 0
  AllFit e [] after said = (after ≡ e) × (said ≡ [])
  AllFit e (d ∷ ds) after said =
      (next : Endpoint M.protocol)
      × (first rest : List ℕ)
      × Fits e d next first
      × AllFit next ds after rest
      × (said ≡ first ++ rest)

  same_some : {A : Type 0} {x y : A} → Some x ≡ Some y → x ≡ y
  same_some e = cc

  said-as : (caches : List M.cache.State) (e next : Endpoint M.protocol) (out : List ℕ) (said : List ℕ) (q : Connection M)
      → Some e ≡ Some next → out ≡ q.out ++ said
      → said_effect M caches e out
      ≡ quiet_effect M caches (Some (reached M q next said))
  said-as caches e next out said q same whole =
      ap (λ (x : Endpoint M.protocol). said_effect M caches x out) (same_some same)
      ∙ ap (λ (xs : List ℕ). said_effect M caches next xs) whole

  out-none : (out said : List ℕ) → said ≡ [] → out ≡ out ++ said
  out-none out said none = sym (ap (λ xs. out ++ xs) none ∙ append-nil out)

  asked : (clock : ℕ) (caches : List M.cache.State) (out : List ℕ) (e : Endpoint M.protocol) (said : List ℕ) (w : Want M.Command)
      → NeedsNone w → want_effect M clock caches out e said w ≡ said_effect M caches e (out ++ said)
  asked clock caches out e said Nothing none = refl
  asked clock caches out e said Said none = refl
  asked clock caches out e said (Call user command) none = absurd none
  asked clock caches out e said Close none = refl

  silent_effect : (clock : ℕ) (caches : List M.cache.State) (x : Happening) (q : Connection M) (next : Endpoint M.protocol)
      (said : List ℕ) → Fits q.endpoint (Silent x) next said
      → effect M rows clock caches x (Some q) ≡ quiet_effect M caches (Some (reached M q next said))
  silent_effect clock caches Open q next said h =
      said-as caches q.endpoint next q.out said q h.steps (out-none q.out said h.says)
  silent_effect clock caches (Piece bytes) q next said h =
      said-as caches _ next q.out said q h.steps (out-none q.out said h.says)
  silent_effect clock caches Act q next said h =
      let t = turn M.protocol rows q.endpoint in
      asked clock caches q.out t.endpoint t.said t.want h.says.0
      ∙ said-as caches t.endpoint next (q.out ++ t.said) said q h.steps (ap (λ xs. q.out ++ xs) (sym h.says.1))
  silent_effect clock caches Shut q next said h =
      said-as caches _ next q.out said q h.steps (out-none q.out said h.says)

  -- what a call leaves
  abbrev call_left : List M.cache.State → Event M.Command M.Outcome → M.cache.State → Connection M → Effect M
  call_left caches v k q = record {
    caches = with_user caches u (M.cache.act k v.moment v.command).1;
    connection = Some q;
    calls = v ∷ [];
  }

  calls_effect : (caches : List M.cache.State) (v : Event M.Command M.Outcome) (k : M.cache.State) (q : Connection M)
      (next : Endpoint M.protocol) (said : List ℕ) → Fits q.endpoint (Calls v) next said → user_at caches u ≡ Some k
      → (M.cache.act k v.moment v.command).0 ≡ v.outcome
      → effect M rows v.moment caches Act (Some q) ≡ call_left caches v k (reached M q next said)
  calls_effect caches v k q next said h held gives =
      let t = turn M.protocol rows q.endpoint in
      let reply : List ℕ = M.protocol.render v.command v.outcome in
      ap (want_effect M v.moment caches q.out t.endpoint t.said) h.says.0
      ∙ ap (call_effect M v.moment caches u v.command t.endpoint (q.out ++ t.said)) held
      ∙ ap (λ (o : M.Outcome). record {
        caches = with_user caches u (M.cache.act k v.moment v.command).1;
        connection = Some (record { endpoint = t.endpoint; out = (q.out ++ t.said) ++ M.protocol.render v.command o });
        calls = record { moment = v.moment; command = v.command; outcome = o } ∷ [];
      }) gives
      ∙ ap (λ (e : Endpoint M.protocol). call_left caches v k (record { endpoint = e; out = (q.out ++ t.said) ++ reply }))
      (same_some h.steps)
      ∙ ap (λ (xs : List ℕ). call_left caches v k (record { endpoint = next; out = xs }))
      (append_assoc q.out t.said (M.protocol.render v.command v.outcome) ∙ ap (λ xs. q.out ++ xs) (sym h.says.1))

  -- where a connection is, and what is ahead of it
  pub record Ahead (goal : ℕ → Connection M) (w : World M) (ss : List (ℕ × DeedOf M)) (c : ℕ) : Type 0 where
    pub q : Connection M
    pub there : numbered c w.connections ≡ Some q
    pub said : List ℕ
    pub fits : AllFit q.endpoint (deeds_at c ss) (goal c).endpoint said
    pub whole : q.out ++ said ≡ (goal c).out

  -- what a connection does next, and what is ahead of it then
  record Next (goal : ℕ → Connection M) (w : World M) (c : ℕ) (d : DeedOf M) (ss : List (ℕ × DeedOf M)) : Type 0 where
    q : Connection M
    there : numbered c w.connections ≡ Some q
    next : Endpoint M.protocol
    first : List ℕ
    rest : List ℕ
    fits : Fits q.endpoint d next first
    later : AllFit next (deeds_at c ss) (goal c).endpoint rest
    whole : (q.out ++ first) ++ rest ≡ (goal c).out

  next_of : (goal : ℕ → Connection M) (w : World M) (c : ℕ) (d : DeedOf M) (ss : List (ℕ × DeedOf M))
      → Ahead goal w ((c, d) ∷ ss) c
      → Next goal w c d ss
  next_of goal w c d ss a = go (rw (eq-eqb c c refl) at a.fits)
    where
      go : AllFit a.q.endpoint (d ∷ deeds_at c ss) (goal c).endpoint a.said → Next goal w c d ss
      go (next, first, rest, fits, later, said) = record {
        q = a.q;
        there = a.there;
        next = next;
        first = first;
        rest = rest;
        fits = fits;
        later = later;
        whole = append_assoc a.q.out first rest ∙ ap (λ xs. a.q.out ++ xs) (sym said) ∙ a.whole;
      }

  ahead-after : (goal : ℕ → Connection M) (w : World M) (clock : ℕ) (caches : List M.cache.State) (d : ℕ) (x : DeedOf M)
      (ss : List (ℕ × DeedOf M)) (n : Next goal w d x ss) (c : ℕ) → Ahead goal w ((d, x) ∷ ss) c
      → Ahead goal (world_of M clock caches w.connections d (reached M n.q n.next n.first)) ss c
  ahead-after goal w clock caches d x ss n c a = go (cases_Bool (d == c))
    where
      then : Connection M
      then = reached M n.q n.next n.first

      go : ((d == c) ≡ true) ⊎ ((d == c) ≡ false) → Ahead goal (world_of M clock caches w.connections d then) ss c
      go (inl e) =
          subst (λ y. Ahead goal (world_of M clock caches w.connections d then) ss y) (eqb-true d c e) (record {
            q = then;
            there = numbered-same d then w.connections;
            said = n.rest;
            fits = n.later;
            whole = n.whole;
          })
      go (inr e) = record {
        q = a.q;
        there = numbered-other c d then w.connections (λ same. eqb-false d c e (sym same)) ∙ a.there;
        said = a.said;
        fits = rw e at a.fits;
        whole = a.whole;
      }

  -- each connection is on its way, and the user's cache gives the outcomes that are ahead
  pub record Ready (cs : List ℕ) (goal : ℕ → Connection M) (w : World M) (ss : List (ℕ × DeedOf M)) : Type 0 where
    pub here : (c : ℕ) → In c cs → Ahead goal w ss c
    pub cache : M.cache.State
    pub held : user_at w.caches u ≡ Some cache
    pub gives : Replays M.cache w.clock cache (events_of M ss)

  ready-silent : (cs : List ℕ) (goal : ℕ → Connection M) (w : World M) (d : ℕ) (x : Happening) (ss : List (ℕ × DeedOf M))
      → In d cs
      → Ready cs goal w ((d, Silent x) ∷ ss) → Ready cs goal (step M rows w (On d x)) ss
  ready-silent cs goal w d x ss i r =
      let n = next_of goal w d (Silent x) ss (r.here d i) in
      let then : Connection M = reached M n.q n.next n.first in
      let does : step M rows w (On d x) ≡ world_of M w.clock w.caches w.connections d then =
      ap (λ o. world_with M w.clock w.connections d (effect M rows w.clock w.caches x o)) n.there
      ∙ ap (world_with M w.clock w.connections d) (silent_effect w.clock w.caches x n.q n.next n.first n.fits) in
      subst (λ (v : World M). Ready cs goal v ss) (sym does) (record {
        here = λ c j. ahead-after goal w w.clock w.caches d (Silent x) ss n c (r.here c j);
        cache = r.cache;
        held = r.held;
        gives = r.gives;
      })

  max-le : (m n : ℕ) → m ≤ n → max m n ≡ n
  max-le m n h = omega arith

  ready-calls : (cs : List ℕ) (goal : ℕ → Connection M) (w : World M) (d : ℕ) (v : Event M.Command M.Outcome)
      (ss : List (ℕ × DeedOf M)) → In d cs → Ready cs goal w ((d, Calls v) ∷ ss)
      → Ready cs goal (step M rows (step M rows w (Tick v.moment)) (On d Act)) ss
  ready-calls cs goal w d v ss i r =
      let n = next_of goal w d (Calls v) ss (r.here d i) in
      let then : Connection M = reached M n.q n.next n.first in
      let after : M.cache.State = (M.cache.act r.cache v.moment v.command).1 in
      let does : step M rows (step M rows w (Tick v.moment)) (On d Act)
      ≡ world_of M v.moment (with_user w.caches u after) w.connections d then =
      ap (λ m. step M rows (record { clock = m; caches = w.caches; connections = w.connections }) (On d Act))
      (max-le w.clock v.moment r.gives.0)
      ∙ ap (λ o. world_with M v.moment w.connections d (effect M rows v.moment w.caches Act o)) n.there
      ∙ ap (world_with M v.moment w.connections d) (calls_effect w.caches v r.cache n.q n.next n.first n.fits r.held r.gives.1) in
      subst (λ (y : World M). Ready cs goal y ss) (sym does) (record {
        here = λ c j. ahead-after goal w v.moment (with_user w.caches u after) d (Calls v) ss n c (r.here c j);
        cache = after;
        held = user_at-set w.caches u after r.cache r.held;
        gives = r.gives.2;
      })

  -- the machine comes where each connection does
  pub comes : (cs : List ℕ) (goal : ℕ → Connection M) (ss : List (ℕ × DeedOf M)) (w : World M) → AllIn cs ss
      → Ready cs goal w ss → (c : ℕ) → In c cs → numbered c (steps_from M rows w (steps_of M ss)).connections ≡ Some (goal c)
  comes cs goal [] w among r c i =
      let a = r.here c i in
      a.there
      ∙ ap (λ (e : Endpoint M.protocol). Some (record { endpoint = e; out = a.q.out })) (sym a.fits.0)
      ∙ ap (λ (xs : List ℕ). Some (record { endpoint = (goal c).endpoint; out = xs })) (out-none a.q.out a.said a.fits.1
      ∙ a.whole)
  comes cs goal ((d, Silent x) ∷ ss) w among r c i =
      comes cs goal ss (step M rows w (On d x)) among.1 (ready-silent cs goal w d x ss among.0 r) c i
  comes cs goal ((d, Calls v) ∷ ss) w among r c i =
      comes cs goal ss (step M rows (step M rows w (Tick v.moment)) (On d Act)) among.1
      (ready-calls cs goal w d v ss among.0 r) c i

  -- ... and makes the calls of the deeds, in their order
  pub makes : (cs : List ℕ) (goal : ℕ → Connection M) (ss : List (ℕ × DeedOf M)) (w : World M) → AllIn cs ss
      → Ready cs goal w ss → (course_from M rows w (steps_of M ss)).history ≡ events_of M ss
  makes cs goal [] w among r = refl
  makes cs goal ((d, Silent x) ∷ ss) w among r =
      let n = next_of goal w d (Silent x) ss (r.here d among.0) in
      let none : calls_of M rows w (On d x) ≡ [] =
      ap (λ o. (effect M rows w.clock w.caches x o).calls) n.there
      ∙ ap (λ (y : Effect M). y.calls) (silent_effect w.clock w.caches x n.q n.next n.first n.fits) in
      ap (λ xs. xs ++ (course_from M rows (step M rows w (On d x)) (steps_of M ss)).history) none
      ∙ makes cs goal ss (step M rows w (On d x)) among.1 (ready-silent cs goal w d x ss among.0 r)
  makes cs goal ((d, Calls v) ∷ ss) w among r =
      let n = next_of goal w d (Calls v) ss (r.here d among.0) in
      let ticked : World M = step M rows w (Tick v.moment) in
      let one : calls_of M rows ticked (On d Act) ≡ v ∷ [] =
      ap (λ m. (effect M rows m w.caches Act (numbered d w.connections)).calls) (max-le w.clock v.moment r.gives.0)
      ∙ ap (λ o. (effect M rows v.moment w.caches Act o).calls) n.there
      ∙ ap (λ (y : Effect M). y.calls) (calls_effect w.caches v r.cache n.q n.next n.first n.fits r.held r.gives.1) in
      ap (λ xs. xs ++ (course_from M rows (step M rows ticked (On d Act)) (steps_of M ss)).history) one
      ∙ ap (λ xs. v ∷ xs)
      (makes cs goal ss (step M rows ticked (On d Act)) among.1 (ready-calls cs goal w d v ss among.0 r))
