-- What settles one item at a time.
use Rattle.std.specs.Prelude.{nat_lt, reverse, sum_by}
use Rattle.std.specs.List.{list_all}
use mathlib.Core.List.{reverse_aux}
use Rattle.std.proofs.Common.{◌≡◌, ℕ, zero, suc, ◌+◌, ◌-◌, ◌<◌, ◌≤◌, false, cond, List, [], ◌∷◌, ◌++◌, length, take}
use Rattle.std.proofs.Common.{refl, sym, ◌∙◌, ap, arith, length-append}
use Rattle.std.proofs.lemmas.Bool.{le-ltb}
use Rattle.std.proofs.lemmas.List.Sums.{sum_by-cons, sum_by_push}
use Rattle.tc_model.specs.Areas.{Areas, Limits, Settled, fitting, beyond, shortest, demoted, trimmed, victims, admitted}
use Rattle.tc_model.specs.Areas.{all_admitted, and_then, entered, narrowed, without_last, from_tail, main_weight, settle}
use Rattle.tc_model.proofs.Last.{fitting_last, beyond_last, shortest_more, fitting_all}

abbrev pub areas_by : {A : Type 0} → List A → List A → List A → Areas A
areas_by x y z = record { window = x; probation = y; protected = z }

module _ {A : Type 0} where
  pub beyond_none : (w : A → ℕ) (room : ℕ) (xs : List A) → sum_by w xs ≤ room → beyond w room xs ≡ []
  beyond_none w room [] h = refl
  beyond_none w room (x ∷ xs) h =
      rw (le-ltb room (w x) (omega (arith, sum_by-cons w x xs)))
      (beyond_none w (room - w x) xs (omega (arith, sum_by-cons w x xs)))

  abbrev empty_list : List A
  empty_list = []

  pub none_shortest : (w : A → ℕ) (xs : List A) → shortest w 0 xs ≡ []
  none_shortest w [] = refl
  none_shortest w (x ∷ xs) = refl

  take_all : (xs : List A) (n : ℕ) → length xs ≤ n → take n xs ≡ xs
  take_all [] zero h = refl
  take_all [] (suc n) h = refl
  take_all (x ∷ xs) zero h = absurd (omega arith)
  take_all (x ∷ xs) (suc n) h = ap (λ t. x ∷ t) (take_all xs n (omega arith))

  take_none : (n : ℕ) → take n (empty_list) ≡ empty_list
  take_none zero = refl
  take_none (suc n) = refl

  take_front : (xs ys : List A) (n : ℕ) → n ≤ length xs → take n (xs ++ ys) ≡ take n xs
  take_front xs ys zero h = refl
  take_front [] ys (suc n) h = absurd (omega arith)
  take_front (x ∷ xs) ys (suc n) h = ap (λ t. x ∷ t) (take_front xs ys n (omega arith))

  same3 : (a x b y c z : List A) → a ≡ x → b ≡ y → c ≡ z → areas_by a b c ≡ areas_by x y z
  same3 a x b y c z e f g = cc

  demoted_none : (weigh : A → ℕ) (l : Limits) (a : Areas A) → sum_by weigh a.protected ≤ l.protected → demoted weigh l a ≡ a
  demoted_none weigh l a h =
      same3 _ _ _ _ _ _ refl (ap (λ t. t ++ a.probation) (beyond_none weigh l.protected a.protected h))
      (fitting_all weigh l.protected a.protected h)

  pub without_none : (a : Areas A) → without_last 0 a ≡ a
  without_none a =
      same3 _ _ _ _ _ _ refl (take_all a.probation (length a.probation - 0) (omega arith))
      (take_all a.protected (length a.protected - (0 - length a.probation)) (omega arith))

  abbrev pub settled_by : Areas A → List A → Settled A
  settled_by a d = record { areas = a; dropped = d }

  trimmed_none : (weigh : A → ℕ) (l : Limits) (a : Areas A) → main_weight weigh a ≤ l.main → trimmed weigh l a ≡ settled_by a []
  trimmed_none weigh l a h =
      let no : main_weight weigh a - l.main ≡ 0 = omega arith in
      ap (λ n. settled_by (without_last (length (shortest weigh n (from_tail a))) a) (shortest weigh n (from_tail a))) no
      ∙ ap (λ g. settled_by (without_last (length g) a) g) (none_shortest weigh (from_tail a))
      ∙ ap (λ z. settled_by z []) (without_none a)

  -- the candidates of areas, once main is as it is
  abbrev pub candidates_of : (A → ℕ) → (A → ℕ) → Limits → List A → Settled A → Settled A
  candidates_of weigh freq l window s =
      and_then s.dropped
      (all_admitted weigh freq l (narrowed (fitting weigh l.window window) s.areas) (reverse (beyond weigh l.window window)))

  pub settle_trimmed : (weigh freq : A → ℕ) (l : Limits) (a : Areas A) → sum_by weigh a.protected ≤ l.protected
      → settle weigh freq l a ≡ candidates_of weigh freq l a.window (trimmed weigh l a)
  settle_trimmed weigh freq l a h = ap (λ z. candidates_of weigh freq l a.window (trimmed weigh l z)) (demoted_none weigh l a h)

  pub settle_main : (weigh freq : A → ℕ) (l : Limits) (a : Areas A) → sum_by weigh a.protected ≤ l.protected
      → main_weight weigh a ≤ l.main → settle weigh freq l a ≡ candidates_of weigh freq l a.window (settled_by a [])
  settle_main weigh freq l a h m =
      settle_trimmed weigh freq l a h ∙ ap (λ s. candidates_of weigh freq l a.window s) (trimmed_none weigh l a m)

  -- b is a without the last of main, v
  pub record Popped (weigh : A → ℕ) (a : Areas A) (v : A) (b : Areas A) : Type 0 where
    pub tail : from_tail a ≡ v ∷ from_tail b
    pub last : (n : ℕ) → without_last (suc n) a ≡ without_last n b
    pub main : main_weight weigh a ≡ main_weight weigh b + weigh v
    pub window : a.window ≡ b.window
    pub protected : sum_by weigh b.protected ≤ sum_by weigh a.protected

  reverse_last : (xs ys : List A) (v : A) → reverse_aux (xs ++ v ∷ []) ys ≡ v ∷ reverse_aux xs ys
  reverse_last [] ys v = refl
  reverse_last (x ∷ xs) ys v = reverse_last xs (x ∷ ys) v

  pub popped_probation : (weigh : A → ℕ) (w p q : List A) (v : A) → Popped weigh (areas_by w (p ++ v ∷ []) q) v (areas_by w p q)
  popped_probation weigh w p q v = record {
    tail = ap (λ t. t ++ reverse q) (reverse_last p [] v);
    last =
        λ n. same3 _ _ _ _ _ _ refl
        (ap (λ k. take k (p ++ v ∷ [])) (less p n) ∙ take_front p (v ∷ []) (length p - n) (omega arith))
        (ap (λ k. take (length q - k) q) (rest p n));
    main = omega (arith, sum_by_push weigh p v);
    window = refl;
    protected = omega arith;
  }
    where
      less : (p : List A) (n : ℕ) → length (p ++ v ∷ []) - suc n ≡ length p - n
      less p n = omega (arith, length-append p (v ∷ []))

      rest : (p : List A) (n : ℕ) → suc n - length (p ++ v ∷ []) ≡ n - length p
      rest p n = omega (arith, length-append p (v ∷ []))

  pub popped_protected : (weigh : A → ℕ) (w q : List A) (v : A) → Popped weigh (areas_by w [] (q ++ v ∷ [])) v (areas_by w [] q)
  popped_protected weigh w q v = record {
    tail = reverse_last q [] v;
    last =
        λ n. same3 _ _ _ _ _ _ refl (take_none (0 - suc n) ∙ sym (take_none (0 - n)))
        (ap (λ k. take k (q ++ v ∷ [])) (less q n) ∙ take_front q (v ∷ []) (length q - (n - 0)) (omega arith));
    main = omega (arith, sum_by_push weigh q v);
    window = refl;
    protected = omega (arith, sum_by_push weigh q v);
  }
    where
      less : (q : List A) (n : ℕ) → length (q ++ v ∷ []) - (suc n - 0) ≡ length q - (n - 0)
      less q n = omega (arith, length-append q (v ∷ []))

  shortest_popped : (weigh : A → ℕ) (need : ℕ) (a b : Areas A) (v : A) → Popped weigh a v b → 0 < need
      → shortest weigh need (from_tail a) ≡ v ∷ shortest weigh (need - weigh v) (from_tail b)
  shortest_popped weigh need a b v pop h = ap (λ t. shortest weigh need t) pop.tail ∙ shortest_more weigh need v (from_tail b) h

  trimmed_popped : (weigh : A → ℕ) (l : Limits) (a b : Areas A) (v : A) → Popped weigh a v b → l.main < main_weight weigh a
      → trimmed weigh l a ≡ and_then (v ∷ []) (trimmed weigh l b)
  trimmed_popped weigh l a b v pop h =
      let need : 0 < main_weight weigh a - l.main = omega arith in
      let less : main_weight weigh a - l.main - weigh v ≡ main_weight weigh b - l.main = omega (arith, pop.main) in
      let gone : shortest weigh (main_weight weigh a - l.main) (from_tail a)
      ≡ v ∷ shortest weigh (main_weight weigh b - l.main) (from_tail b)
      = shortest_popped weigh (main_weight weigh a - l.main) a b v pop need ∙ ap (λ k. v ∷ shortest weigh k (from_tail b)) less in
      ap (λ g. settled_by (without_last (length g) a) g) gone
      ∙ ap (λ z. settled_by z (v ∷ shortest weigh (main_weight weigh b - l.main) (from_tail b)))
      (pop.last (length (shortest weigh (main_weight weigh b - l.main) (from_tail b))))

  -- rule 2: the last of main is dropped
  pub settle_trims : (weigh freq : A → ℕ) (l : Limits) (a b : Areas A) (v : A) → Popped weigh a v b
      → sum_by weigh a.protected ≤ l.protected → l.main < main_weight weigh a
      → settle weigh freq l a ≡ and_then (v ∷ []) (settle weigh freq l b)
  settle_trims weigh freq l a b v pop h m =
      settle_trimmed weigh freq l a h ∙ ap (λ s. candidates_of weigh freq l a.window s) (trimmed_popped weigh l a b v pop m)
      ∙ ap (λ w. candidates_of weigh freq l w (and_then (v ∷ []) (trimmed weigh l b))) pop.window
      ∙ sym (ap (λ s. and_then (v ∷ []) s) (settle_trimmed weigh freq l b (omega (arith, pop.protected))))

  -- the first candidate, and then the others
  abbrev pub first_of : (A → ℕ) → (A → ℕ) → Limits → List A → A → Settled A → Settled A
  first_of weigh freq l w c s = and_then s.dropped (all_admitted weigh freq l s.areas (reverse (beyond weigh l.window w)))

  pub candidate : (weigh freq : A → ℕ) (l : Limits) (w p q : List A) (c : A) → l.window < sum_by weigh (w ++ c ∷ [])
      → candidates_of weigh freq l (w ++ c ∷ []) (settled_by (areas_by (w ++ c ∷ []) p q) [])
      ≡ first_of weigh freq l w c (admitted freq c (areas_by (fitting weigh l.window w) p q)
      (victims weigh l (areas_by (fitting weigh l.window w) p q) c))
  candidate weigh freq l w p q c x =
      ap (λ t. all_admitted weigh freq l (areas_by t p q) (reverse (beyond weigh l.window (w ++ c ∷ []))))
      (fitting_last weigh l.window w c x)
      ∙ ap (λ t. all_admitted weigh freq l (areas_by (fitting weigh l.window w) p q) (reverse t))
      (beyond_last weigh l.window w c x)
      ∙ ap (λ t. all_admitted weigh freq l (areas_by (fitting weigh l.window w) p q) t)
      (reverse_last (beyond weigh l.window w) [] c)

  -- rule 3, where it is refused
  pub settle_refuses : (weigh freq : A → ℕ) (l : Limits) (w p q : List A) (c : A) → sum_by weigh q ≤ l.protected
      → main_weight weigh (areas_by w p q) ≤ l.main → l.window < sum_by weigh (w ++ c ∷ [])
      → list_all (λ v. nat_lt (freq v) (freq c)) (victims weigh l (areas_by w p q) c) ≡ false
      → settle weigh freq l (areas_by (w ++ c ∷ []) p q) ≡ and_then (c ∷ []) (settle weigh freq l (areas_by w p q))
  settle_refuses weigh freq l w p q c h m x lost =
      let window : List A = fitting weigh l.window w in
      settle_main weigh freq l (areas_by (w ++ c ∷ []) p q) h m ∙ candidate weigh freq l w p q c x
      ∙ ap (λ b. first_of weigh freq l w c (cond b
      (settled_by (entered c (without_last (length (victims weigh l (areas_by window p q) c)) (areas_by window p q)))
      (victims weigh l (areas_by window p q) c))
      (settled_by (areas_by window p q) (c ∷ [])))) lost
      ∙ sym (ap (λ s. and_then (c ∷ []) s) (settle_main weigh freq l (areas_by w p q) h m))
