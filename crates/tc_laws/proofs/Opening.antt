-- Connections are opened, and then make their deeds: what steps come to that are those of one user's connections alone.
use Rattle.std.specs.Prelude.{◌==◌, filter}
use Rattle.std.proofs.Common.{◌≡◌, ℕ, Bool, true, false, cond, ◌⊎◌, inl, inr, List, [], ◌∷◌, ◌++◌, Some, None, refl, sym}
use Rattle.std.proofs.Common.{◌∙◌, ap, subst, eq-eqb}
use Rattle.std.proofs.lemmas.Bool.{eqb-true, eqb-false, cases_Bool}
use Rattle.tc_model.specs.Connection.{Happening, Open, Act, new_endpoint}
use Rattle.tc_model.specs.Server.{Machine, Connection, Step, On, World, numbered, step, world_with, effect}
use Rattle.tc_model.specs.Server.{calls_of, course_from, steps_from, is_of}
use Rattle.tc_laws.specs.Numbers.{IsAmong as In, AreDistinct as Distinct, AreOf}
use Rattle.tc_laws.proofs.Merging.{Silent, Calls, deeds_at, AllIn, not_eqb}
use Rattle.tc_laws.proofs.Running.{DeedOf, happening_at, steps_of, world_of, numbered-same, numbered-other}

-- each of these connections is opened
abbrev pub opens : List ℕ → List Step
opens [] = []
opens (c ∷ cs) = On c Open ∷ opens cs

-- ---- which steps are whose
filter-append : (p : Step → Bool) (xs ys : List Step) → filter p (xs ++ ys) ≡ filter p xs ++ filter p ys
filter-append p [] ys = refl
filter-append p (x ∷ xs) ys = go (p x) (filter-append p xs ys)
  where
    go : (b : Bool) → filter p (xs ++ ys) ≡ filter p xs ++ filter p ys
        → cond b (x ∷ filter p (xs ++ ys)) (filter p (xs ++ ys)) ≡ cond b (x ∷ filter p xs) (filter p xs) ++ filter p ys
    go true e = ap (λ zs. x ∷ zs) e
    go false e = e

opens-other : (c : ℕ) (cs : List ℕ) → (In c cs → ⊥) → filter (is_of c) (opens cs) ≡ []
opens-other c [] out = refl
opens-other c (d ∷ cs) out = rw (not_eqb c d (λ e. out (inl e))) (opens-other c cs (λ i. out (inr i)))

opens-own : (c : ℕ) (cs : List ℕ) → Distinct cs → In c cs → filter (is_of c) (opens cs) ≡ On c Open ∷ []
opens-own c [] apart i = absurd i
opens-own c (d ∷ cs) apart (inl e) =
    subst (λ x. filter (is_of x) (opens (d ∷ cs)) ≡ On x Open ∷ []) e
    (rw (eq-eqb d d refl) (ap (λ xs. On d Open ∷ xs) (opens-other d cs apart.0)))
opens-own c (d ∷ cs) apart (inr i) =
    rw (not_eqb c d (λ e. apart.0 (subst (λ x. In x cs) (sym e) i))) (opens-own c cs apart.1 i)

opens-of : (cs ds : List ℕ) → ((d : ℕ) → In d ds → In d cs) → (xs : List Step) → AreOf cs xs → AreOf cs (opens ds ++ xs)
opens-of cs [] within xs all = all
opens-of cs (d ∷ ds) within xs all = (within d (inl refl), opens-of cs ds (λ e i. within e (inr i)) xs all)

module _ (M : Machine) where
  steps_of-of : (cs : List ℕ) (ss : List (ℕ × DeedOf M)) → AllIn cs ss → AreOf cs (steps_of M ss)
  steps_of-of cs [] among = tt
  steps_of-of cs ((c, Silent x) ∷ ss) among = (among.0, steps_of-of cs ss among.1)
  steps_of-of cs ((c, Calls v) ∷ ss) among = (among.0, steps_of-of cs ss among.1)

  -- the steps of one connection's deeds
  abbrev pub steps_at : ℕ → List (DeedOf M) → List Step
  steps_at c [] = []
  steps_at c (d ∷ ds) = On c (happening_at M d) ∷ steps_at c ds

  own-first : (c d : ℕ) (x : Happening) (deed : DeedOf M) (ss : List (ℕ × DeedOf M)) → happening_at M deed ≡ x
      → filter (is_of c) (steps_of M ss) ≡ steps_at c (deeds_at c ss)
      → filter (is_of c) (On d x ∷ steps_of M ss) ≡ steps_at c (cond (d == c) (deed ∷ deeds_at c ss) (deeds_at c ss))
  own-first c d x deed ss is later = go (cases_Bool (d == c))
    where
      go : ((d == c) ≡ true) ⊎ ((d == c) ≡ false)
          → filter (is_of c) (On d x ∷ steps_of M ss) ≡ steps_at c (cond (d == c) (deed ∷ deeds_at c ss) (deeds_at c ss))
      go (inl e) =
          rw e (ap (λ y. On y x ∷ filter (is_of c) (steps_of M ss)) (eqb-true d c e)
          ∙ (ap (λ y. On c y ∷ filter (is_of c) (steps_of M ss)) (sym is) ∙ ap (λ xs. On c (happening_at M deed) ∷ xs) later))
      go (inr e) = rw e later

  steps_of-own : (c : ℕ) (ss : List (ℕ × DeedOf M)) → filter (is_of c) (steps_of M ss) ≡ steps_at c (deeds_at c ss)
  steps_of-own c [] = refl
  steps_of-own c ((d, Silent x) ∷ ss) = own-first c d x (Silent x) ss refl (steps_of-own c ss)
  steps_of-own c ((d, Calls v) ∷ ss) = own-first c d Act (Calls v) ss refl (steps_of-own c ss)

  -- a connection's own steps among those of all
  pub own-steps : (c : ℕ) (cs : List ℕ) (ss : List (ℕ × DeedOf M)) → Distinct cs → In c cs
      → filter (is_of c) (opens cs ++ steps_of M ss) ≡ On c Open ∷ steps_at c (deeds_at c ss)
  own-steps c cs ss apart i =
      filter-append (is_of c) (opens cs) (steps_of M ss)
      ∙ ap (λ xs. xs ++ filter (is_of c) (steps_of M ss)) (opens-own c cs apart i)
      ∙ ap (λ xs. On c Open ∷ xs) (steps_of-own c ss)

  pub all-steps : (cs : List ℕ) (ss : List (ℕ × DeedOf M)) → AllIn cs ss → AreOf cs (opens cs ++ steps_of M ss)
  all-steps cs ss among = opens-of cs cs (λ d i. i) (steps_of M ss) (steps_of-of cs ss among)

module _ (M : Machine) (rows : List M.protocol.Row) where
  -- where all connections that are there are as they were opened
  abbrev pub first_connection : Connection M
  first_connection = record { endpoint = new_endpoint M.protocol; out = [] }

  abbrev pub IsNew : World M → Type 0
  IsNew w = (c : ℕ) → (numbered c w.connections ≡ None) ⊎ (numbered c w.connections ≡ Some first_connection)

  opened : (w : World M) (d : ℕ) → IsNew w
      → step M rows w (On d Open)
      ≡ world_of M w.clock w.caches w.connections d first_connection
  opened w d new = go (new d)
    where
      go : (numbered d w.connections ≡ None) ⊎ (numbered d w.connections ≡ Some first_connection)
          → step M rows w (On d Open) ≡ world_of M w.clock w.caches w.connections d first_connection
      go (inl none) =
          ap (λ o. world_with M w.clock w.connections d (effect M rows w.clock w.caches Open o)) none
      go (inr some) =
          ap (λ o. world_with M w.clock w.connections d (effect M rows w.clock w.caches Open o)) some

  still-new : (w : World M) (d : ℕ) → IsNew w → IsNew (world_of M w.clock w.caches w.connections d first_connection)
  still-new w d new c = go (cases_Bool (d == c))
    where
      after : World M
      after = world_of M w.clock w.caches w.connections d first_connection

      go : ((d == c) ≡ true) ⊎ ((d == c) ≡ false)
          → (numbered c after.connections ≡ None) ⊎ (numbered c after.connections ≡ Some first_connection)
      go (inl e) =
          inr (subst (λ y. numbered y after.connections ≡ Some first_connection) (eqb-true d c e)
          (numbered-same d first_connection w.connections))
      go (inr e) =
          subst (λ o. (o ≡ None) ⊎ (o ≡ Some first_connection))
          (sym (numbered-other c d first_connection w.connections (λ same. eqb-false d c e (sym same)))) (new c)

  -- a world in which these are opened
  pub record Opened (cs : List ℕ) (w v : World M) : Type 0 where
    pub clock : v.clock ≡ w.clock
    pub caches : v.caches ≡ w.caches
    pub new : IsNew v
    pub kept : (c : ℕ) → numbered c w.connections ≡ Some first_connection → numbered c v.connections ≡ Some first_connection
    pub here : (c : ℕ) → In c cs → numbered c v.connections ≡ Some first_connection
    pub none : (course_from M rows w (opens cs)).history ≡ []

  kept-first : (w : World M) (c d : ℕ) → numbered c w.connections ≡ Some first_connection
      → numbered c (world_of M w.clock w.caches w.connections d first_connection).connections ≡ Some first_connection
  kept-first w c d e = go (cases_Bool (d == c))
    where
      go : ((d == c) ≡ true) ⊎ ((d == c) ≡ false)
          → numbered c (world_of M w.clock w.caches w.connections d first_connection).connections ≡ Some first_connection
      go (inl p) =
          subst (λ y. numbered y (world_of M w.clock w.caches w.connections d first_connection).connections
          ≡ Some first_connection)
          (eqb-true d c p) (numbered-same d first_connection w.connections)
      go (inr p) = numbered-other c d first_connection w.connections (λ same. eqb-false d c p (sym same)) ∙ e

  calls-opened : (w : World M) (d : ℕ) → IsNew w → calls_of M rows w (On d Open) ≡ []
  calls-opened w d new = go (new d)
    where
      go : (numbered d w.connections ≡ None) ⊎ (numbered d w.connections ≡ Some first_connection)
          → calls_of M rows w (On d Open) ≡ []
      go (inl none) = ap (λ o. (effect M rows w.clock w.caches Open o).calls) none
      go (inr some) = ap (λ o. (effect M rows w.clock w.caches Open o).calls) some

  pub opened-all : (cs : List ℕ) (w : World M) → IsNew w → Opened cs w (steps_from M rows w (opens cs))
  opened-all [] w new = record {
    clock = refl;
    caches = refl;
    new = new;
    kept = λ c e. e;
    here = λ c i. absurd i;
    none = refl;
  }
  opened-all (d ∷ cs) w new =
      let next : World M = world_of M w.clock w.caches w.connections d first_connection in
      let does : step M rows w (On d Open) ≡ next = opened w d new in
      let later : Opened cs next (steps_from M rows next (opens cs)) = opened-all cs next (still-new w d new) in
      let come : steps_from M rows w (opens (d ∷ cs)) ≡ steps_from M rows next (opens cs) =
      ap (λ (v : World M). steps_from M rows v (opens cs)) does in
      subst (λ (v : World M). Opened (d ∷ cs) w v) (sym come) (record {
        clock = later.clock;
        caches = later.caches;
        new = later.new;
        kept = λ c e. later.kept c (kept-first w c d e);
        here = λ c i. here-first c i later;
        none =
            ap (λ xs. xs ++ (course_from M rows (step M rows w (On d Open)) (opens cs)).history) (calls-opened w d new)
            ∙ (ap (λ (v : World M). (course_from M rows v (opens cs)).history) does ∙ later.none);
      })
    where
      here-first : (c : ℕ) → In c (d ∷ cs)
          → Opened cs (world_of M w.clock w.caches w.connections d first_connection)
          (steps_from M rows (world_of M w.clock w.caches w.connections d first_connection) (opens cs))
          → numbered c (steps_from M rows (world_of M w.clock w.caches w.connections d first_connection) (opens cs)).connections
          ≡ Some first_connection
      here-first c (inl e) later =
          later.kept c (subst (λ y. numbered y (world_of M w.clock w.caches w.connections d first_connection).connections
          ≡ Some first_connection) e (numbered-same d first_connection w.connections))
      here-first c (inr i) later = later.here c i
