-- Connections' deeds, merged into one list in the order of their calls.
use Rattle.std.specs.Prelude.{◌==◌}
use Rattle.std.proofs.Common.{◌≡◌, ℕ, true, false, cond, ◌⊎◌, inl, inr, List, [], ◌∷◌, ◌++◌, refl, sym, ◌∙◌, ap, subst}
use Rattle.std.proofs.Common.{eq-eqb, append_assoc}
use Rattle.std.proofs.lemmas.Bool.{eqb-true, cases_Bool}
use Rattle.tc_model.specs.Connection.{Happening}
use Rattle.tc_laws.specs.Numbers.{IsAmong as In, AreDistinct as Distinct}

-- what a connection does in a step: nothing with a cache, or this call
pub data Deed (V : Type 0) : Type 0 where
  Silent : (x : Happening) → Deed V
  Calls : (v : V) → Deed V

pub not_eqb : (c d : ℕ) → (d ≡ c → ⊥) → (d == c) ≡ false
not_eqb c d ne = go (cases_Bool (d == c))
  where
    go : ((d == c) ≡ true) ⊎ ((d == c) ≡ false) → (d == c) ≡ false
    go (inl e) = absurd (ne (eqb-true d c e))
    go (inr e) = e

in-as : (c d : ℕ) (cs : List ℕ) → c ≡ d → In c cs → In d cs
in-as c d cs e i = subst (λ x. In x cs) e i

module _ {V : Type 0} where
  abbrev pub calls_in : List (Deed V) → List V
  calls_in [] = []
  calls_in (Silent x ∷ ds) = calls_in ds
  calls_in (Calls v ∷ ds) = v ∷ calls_in ds

  -- the deeds of a connection
  abbrev pub deeds_at : ℕ → List (ℕ × Deed V) → List (Deed V)
  deeds_at c [] = []
  deeds_at c (s ∷ ss) = cond (s.0 == c) (s.1 ∷ deeds_at c ss) (deeds_at c ss)

  -- the calls of a connection
  abbrev pub calls_at : ℕ → List (ℕ × V) → List V
  calls_at c [] = []
  calls_at c (x ∷ xs) = cond (x.0 == c) (x.1 ∷ calls_at c xs) (calls_at c xs)

  -- whose calls are made, in their order
  abbrev pub called : ℕ → Deed V → List (ℕ × V)
  called c (Silent x) = []
  called c (Calls v) = (c, v) ∷ []

  abbrev pub all_called : List (ℕ × Deed V) → List (ℕ × V)
  all_called [] = []
  all_called (s ∷ ss) = called s.0 s.1 ++ all_called ss

  -- the deeds as those of one connection
  abbrev pub tagged : ℕ → List (Deed V) → List (ℕ × Deed V)
  tagged c [] = []
  tagged c (d ∷ ds) = (c, d) ∷ tagged c ds

  abbrev pub AllIn : List ℕ → List (ℕ × Deed V) → Type 0
  AllIn cs [] = Unit {0}
  AllIn cs (s ∷ ss) = In s.0 cs × AllIn cs ss

  all_in-append : (cs : List ℕ) (ss ts : List (ℕ × Deed V)) → AllIn cs ss → AllIn cs ts → AllIn cs (ss ++ ts)
  all_in-append cs [] ts a b = b
  all_in-append cs (s ∷ ss) ts a b = (a.0, all_in-append cs ss ts a.1 b)

  all_in-tagged : (cs : List ℕ) (c : ℕ) (ds : List (Deed V)) → In c cs → AllIn cs (tagged c ds)
  all_in-tagged cs c [] i = tt
  all_in-tagged cs c (d ∷ ds) i = (i, all_in-tagged cs c ds i)

  all_in-more : (c : ℕ) (cs : List ℕ) (ss : List (ℕ × Deed V)) → AllIn cs ss → AllIn (c ∷ cs) ss
  all_in-more c cs [] a = tt
  all_in-more c cs (s ∷ ss) a = (inr a.0, all_in-more c cs ss a.1)

  -- deeds of this connection before others
  deeds_at-own : (c : ℕ) (ds : List (Deed V)) (ss : List (ℕ × Deed V)) → deeds_at c (tagged c ds ++ ss) ≡ ds ++ deeds_at c ss
  deeds_at-own c [] ss = refl
  deeds_at-own c (d ∷ ds) ss = rw (eq-eqb c c refl) (ap (λ xs. d ∷ xs) (deeds_at-own c ds ss))

  -- deeds of another one before others
  deeds_at-other : (c d : ℕ) (ds : List (Deed V)) (ss : List (ℕ × Deed V)) → (d == c) ≡ false
      → deeds_at c (tagged d ds ++ ss) ≡ deeds_at c ss
  deeds_at-other c d [] ss ne = refl
  deeds_at-other c d (x ∷ ds) ss ne = rw ne (deeds_at-other c d ds ss ne)

  all_called-append : (ss ts : List (ℕ × Deed V)) → all_called (ss ++ ts) ≡ all_called ss ++ all_called ts
  all_called-append [] ts = refl
  all_called-append (s ∷ ss) ts =
      ap (λ xs. called s.0 s.1 ++ xs) (all_called-append ss ts)
      ∙ sym (append_assoc (called s.0 s.1) (all_called ss) (all_called ts))

  all_called-silent : (c : ℕ) (ds : List (Deed V)) → calls_in ds ≡ [] → all_called (tagged c ds) ≡ []
  all_called-silent c [] none = refl
  all_called-silent c (Silent x ∷ ds) none = all_called-silent c ds none
  all_called-silent c (Calls v ∷ ds) none = absurd cc

  -- connections with no calls left, one after the other
  spread : List ℕ → (ℕ → List (Deed V)) → List (ℕ × Deed V)
  spread [] deeds = []
  spread (c ∷ cs) deeds = tagged c (deeds c) ++ spread cs deeds

  spread-none : (c : ℕ) (cs : List ℕ) (deeds : ℕ → List (Deed V)) → (In c cs → ⊥) → deeds_at c (spread cs deeds) ≡ []
  unfolding spread
  spread-none c [] deeds out = refl
  spread-none c (d ∷ cs) deeds out =
      deeds_at-other c d (deeds d) (spread cs deeds) (not_eqb c d (λ e. out (inl e))) ∙ spread-none c cs deeds (λ i. out (inr i))

  append-none : (xs ys : List (Deed V)) → ys ≡ [] → xs ++ ys ≡ xs
  append-none [] ys none = none
  append-none (x ∷ xs) ys none = ap (λ zs. x ∷ zs) (append-none xs ys none)

  spread-own : (c : ℕ) (cs : List ℕ) (deeds : ℕ → List (Deed V)) → Distinct cs → In c cs → deeds_at c (spread cs deeds) ≡ deeds c
  unfolding spread
  spread-own c [] deeds apart i = absurd i
  spread-own c (d ∷ cs) deeds apart (inl e) =
      subst (λ x. deeds_at x (tagged d (deeds d) ++ spread cs deeds) ≡ deeds x) e
      (deeds_at-own d (deeds d) (spread cs deeds) ∙ append-none (deeds d) _ (spread-none d cs deeds apart.0))
  spread-own c (d ∷ cs) deeds apart (inr i) =
      deeds_at-other c d (deeds d) (spread cs deeds) (not_eqb c d (λ e. apart.0 (in-as c d cs (sym e) i)))
      ∙ spread-own c cs deeds apart.1 i

  spread-silent : (cs : List ℕ) (deeds : ℕ → List (Deed V)) → ((c : ℕ) → In c cs → calls_in (deeds c) ≡ [])
      → all_called (spread cs deeds) ≡ []
  unfolding spread
  spread-silent [] deeds none = refl
  spread-silent (c ∷ cs) deeds none =
      all_called-append (tagged c (deeds c)) (spread cs deeds)
      ∙ ap (λ xs. xs ++ all_called (spread cs deeds)) (all_called-silent c (deeds c) (none c (inl refl)))
      ∙ spread-silent cs deeds (λ d i. none d (inr i))

  spread-in : (cs : List ℕ) (deeds : ℕ → List (Deed V)) → AllIn cs (spread cs deeds)
  unfolding spread
  spread-in [] deeds = tt
  spread-in (c ∷ cs) deeds =
      all_in-append (c ∷ cs) (tagged c (deeds c)) (spread cs deeds) (all_in-tagged (c ∷ cs) c (deeds c) (inl refl))
      (all_in-more c cs (spread cs deeds) (spread-in cs deeds))

  -- deeds up to their first call, and behind it
  record Parts (ds : List (Deed V)) (v : V) (vs : List V) : Type 0 where
    front : List (Deed V)
    rest : List (Deed V)
    whole : ds ≡ front ++ Calls v ∷ rest
    silent : calls_in front ≡ []
    later : calls_in rest ≡ vs

  parted : (ds : List (Deed V)) (v : V) (vs : List V) → calls_in ds ≡ v ∷ vs → Parts ds v vs
  parted [] v vs e = absurd cc
  parted (Silent x ∷ ds) v vs e =
      let p = parted ds v vs e in
      record {
        front = Silent x ∷ p.front;
        rest = p.rest;
        whole = ap (λ xs. Silent x ∷ xs) p.whole;
        silent = p.silent;
        later = p.later;
      }
  parted (Calls w ∷ ds) v vs e = record {
    front = [];
    rest = ds;
    whole = let same : w ≡ v = cc in ap (λ (u : V). Calls u ∷ ds) same;
    silent = refl;
    later = cc;
  }

  -- the deeds of connections in one order, in which their calls are these
  pub record Merged (cs : List ℕ) (deeds : ℕ → List (Deed V)) (log : List (ℕ × V)) : Type 0 where
    pub order : List (ℕ × Deed V)
    pub own : (c : ℕ) → In c cs → deeds_at c order ≡ deeds c
    pub calls : all_called order ≡ log
    pub among : AllIn cs order

  -- the deeds once one connection has these left
  left_at : (ℕ → List (Deed V)) → ℕ → List (Deed V) → ℕ → List (Deed V)
  left_at deeds c rest d = cond (c == d) rest (deeds d)

  -- each call is one of these connections'
  abbrev pub AllKnown : List ℕ → List (ℕ × V) → Type 0
  AllKnown cs [] = Unit {0}
  AllKnown cs (x ∷ xs) = In x.0 cs × AllKnown cs xs

  pub merged : (cs : List ℕ) (deeds : ℕ → List (Deed V)) (log : List (ℕ × V)) → Distinct cs → AllKnown cs log
      → ((c : ℕ) → In c cs → calls_in (deeds c) ≡ calls_at c log) → Merged cs deeds log
  unfolding left_at
  merged cs deeds [] apart known calls = record {
    order = spread cs deeds;
    own = λ c i. spread-own c cs deeds apart i;
    calls = spread-silent cs deeds calls;
    among = spread-in cs deeds;
  }
  merged cs deeds ((c, v) ∷ log) apart known calls =
      let here : calls_in (deeds c) ≡ v ∷ calls_at c log = rw (eq-eqb c c refl) at (calls c known.0) in
      let p = parted (deeds c) v (calls_at c log) here in
      let deeds' = left_at deeds c p.rest in
      let later : Merged cs deeds' log =
      merged cs deeds' log apart known.1 (λ d i. left-calls d p.rest p.later (calls d i) (cases_Bool (c == d))) in
      record {
        order = tagged c p.front ++ (c, Calls v) ∷ later.order;
        own = λ d i. left-own d p.front p.rest p.whole later.order (later.own d i) (cases_Bool (c == d));
        calls =
            all_called-append (tagged c p.front) ((c, Calls v) ∷ later.order)
            ∙ ap (λ xs. xs ++ (c, v) ∷ all_called later.order) (all_called-silent c p.front p.silent)
            ∙ ap (λ xs. (c, v) ∷ xs) later.calls;
        among =
            all_in-append cs (tagged c p.front) ((c, Calls v) ∷ later.order) (all_in-tagged cs c p.front known.0)
            (known.0, later.among);
      }
    where
      left-calls : (d : ℕ) (rest : List (Deed V)) → calls_in rest ≡ calls_at c log
          → calls_in (deeds d) ≡ calls_at d ((c, v) ∷ log) → ((c == d) ≡ true) ⊎ ((c == d) ≡ false)
          → calls_in (left_at deeds c rest d) ≡ calls_at d log
      left-calls d rest later own (inl e) = rw e (later ∙ ap (λ x. calls_at x log) (eqb-true c d e))
      left-calls d rest later own (inr e) = rw e (rw e at own)

      left-own : (d : ℕ) (front rest : List (Deed V)) → deeds c ≡ front ++ Calls v ∷ rest → (order : List (ℕ × Deed V))
          → deeds_at d order ≡ left_at deeds c rest d → ((c == d) ≡ true) ⊎ ((c == d) ≡ false)
          → deeds_at d (tagged c front ++ (c, Calls v) ∷ order) ≡ deeds d
      left-own d front rest whole order own (inl e) =
          let same : c ≡ d = eqb-true c d e in
          let mine : deeds_at d order ≡ rest = rw e at own in
          subst (λ x. deeds_at x (tagged c front ++ (c, Calls v) ∷ order) ≡ deeds x) same
          (deeds_at-own c front ((c, Calls v) ∷ order)
          ∙ rw (eq-eqb c c refl) (ap (λ xs. front ++ Calls v ∷ xs) (ap (λ x. deeds_at x order) same ∙ mine) ∙ sym whole))
      left-own d front rest whole order own (inr e) =
          deeds_at-other d c front ((c, Calls v) ∷ order) e ∙ rw e (rw e at own)
