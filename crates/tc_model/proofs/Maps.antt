-- Areas of one kind of thing, seen as areas of another of the same weights and frequencies.
use Rattle.std.specs.Prelude.{nat_lt, reverse, sum_by, map, ◌==◌, ◌&&◌}
use Rattle.std.specs.List.{list_all}
use mathlib.Core.List.{reverse_aux}
use Rattle.std.proofs.Common.{◌≡◌, ℕ, zero, suc, ◌+◌, ◌-◌, Bool, true, false, cond, List, [], ◌∷◌, ◌++◌, length, take, refl, sym}
use Rattle.std.proofs.Common.{◌∙◌, ap}
use Rattle.std.proofs.lemmas.List.Sums.{sum_by-cons}
use Rattle.tc_model.specs.Areas.{Areas, Limits, Settled, fitting, beyond, shortest, demoted, trimmed, victims}
use Rattle.tc_model.specs.Areas.{admitted, all_admitted, and_then, entered, narrowed, without_last, from_tail, main_weight}
use Rattle.tc_model.specs.Areas.{settle}
use Rattle.tc_model.specs.Mapped.{map_areas, map_settled}

abbrev areas_by : {A : Type 0} → List A → List A → List A → Areas A
areas_by w p q = record { window = w; probation = p; protected = q }

abbrev settled_by : {A : Type 0} → Areas A → List A → Settled A
settled_by a d = record { areas = a; dropped = d }

same3 : {B : Type 0} (w x p q r s : List B) → w ≡ x → p ≡ q → r ≡ s → areas_by w p r ≡ areas_by x q s
same3 w x p q r s e f g = cc

same2 : {B : Type 0} (a b : Areas B) (d e : List B) → a ≡ b → d ≡ e → settled_by a d ≡ settled_by b e
same2 a b d e f g = cc

module _ {A B : Type 0} where
  pub map-append : (f : A → B) (xs ys : List A) → map f (xs ++ ys) ≡ map f xs ++ map f ys
  map-append f [] ys = refl
  map-append f (x ∷ xs) ys = ap (λ t. f x ∷ t) (map-append f xs ys)

  pub map-reverse : (f : A → B) (xs : List A) → map f (reverse xs) ≡ reverse (map f xs)
  map-reverse f xs = onto xs []
    where
      onto : (xs ys : List A) → map f (reverse_aux xs ys) ≡ reverse_aux (map f xs) (map f ys)
      onto [] ys = refl
      onto (x ∷ xs) ys = onto xs (x ∷ ys)

  pub map-take : (f : A → B) (n : ℕ) (xs : List A) → map f (take n xs) ≡ take n (map f xs)
  map-take f zero xs = refl
  map-take f (suc n) [] = refl
  map-take f (suc n) (x ∷ xs) = ap (λ t. f x ∷ t) (map-take f n xs)

  pub length-map_of : (f : A → B) (xs : List A) → length (map f xs) ≡ length xs
  length-map_of f [] = refl
  length-map_of f (x ∷ xs) = ap suc (length-map_of f xs)

  pub map-cond : (f : A → B) (b : Bool) (xs ys : List A) → map f (cond b xs ys) ≡ cond b (map f xs) (map f ys)
  map-cond f true xs ys = refl
  map-cond f false xs ys = refl

  pub map-fitting : (f : A → B) (w : B → ℕ) (room : ℕ) (xs : List A)
      → map f (fitting (λ x. w (f x)) room xs) ≡ fitting w room (map f xs)
  map-fitting f w room [] = refl
  map-fitting f w room (x ∷ xs) =
      map-cond f (nat_lt room (w (f x))) [] (x ∷ fitting (λ x. w (f x)) (room - w (f x)) xs)
      ∙ ap (λ t. cond (nat_lt room (w (f x))) [] (f x ∷ t)) (map-fitting f w (room - w (f x)) xs)

  pub map-beyond : (f : A → B) (w : B → ℕ) (room : ℕ) (xs : List A)
      → map f (beyond (λ x. w (f x)) room xs) ≡ beyond w room (map f xs)
  map-beyond f w room [] = refl
  map-beyond f w room (x ∷ xs) =
      map-cond f (nat_lt room (w (f x))) (x ∷ xs) (beyond (λ x. w (f x)) (room - w (f x)) xs)
      ∙ ap (λ t. cond (nat_lt room (w (f x))) (f x ∷ map f xs) t) (map-beyond f w (room - w (f x)) xs)

  pub map-shortest : (f : A → B) (w : B → ℕ) (need : ℕ) (xs : List A)
      → map f (shortest (λ x. w (f x)) need xs) ≡ shortest w need (map f xs)
  map-shortest f w need [] = refl
  map-shortest f w need (x ∷ xs) =
      map-cond f (need == 0) [] (x ∷ shortest (λ x. w (f x)) (need - w (f x)) xs)
      ∙ ap (λ t. cond (need == 0) [] (f x ∷ t)) (map-shortest f w (need - w (f x)) xs)

  pub sum_by-map : (f : A → B) (w : B → ℕ) (xs : List A) → sum_by (λ x. w (f x)) xs ≡ sum_by w (map f xs)
  sum_by-map f w [] = refl
  sum_by-map f w (x ∷ xs) =
      sum_by-cons (λ x. w (f x)) x xs ∙ ap (λ t. w (f x) + t) (sum_by-map f w xs) ∙ sym (sum_by-cons w (f x) (map f xs))

  pub list_all-map : (f : A → B) (p : B → Bool) (xs : List A) → list_all (λ x. p (f x)) xs ≡ list_all p (map f xs)
  list_all-map f p [] = refl
  list_all-map f p (x ∷ xs) = ap (λ b. p (f x) && b) (list_all-map f p xs)

  pub map-demoted : (f : A → B) (w : B → ℕ) (l : Limits) (a : Areas A)
      → map_areas f (demoted (λ x. w (f x)) l a) ≡ demoted w l (map_areas f a)
  map-demoted f w l a =
      same3 _ _ _ _ _ _ refl
      (map-append f (beyond (λ x. w (f x)) l.protected a.protected) a.probation
      ∙ ap (λ t. t ++ map f a.probation) (map-beyond f w l.protected a.protected))
      (map-fitting f w l.protected a.protected)

  pub map-without_last : (f : A → B) (n : ℕ) (a : Areas A) → map_areas f (without_last n a) ≡ without_last n (map_areas f a)
  map-without_last f n a = same3 _ _ _ _ _ _ refl
      (map-take f (length a.probation - n) a.probation
      ∙ ap (λ k. take (k - n) (map f a.probation)) (sym (length-map_of f a.probation)))
      (map-take f (length a.protected - (n - length a.probation)) a.protected
      ∙ ap (λ k. take (k - (n - length a.probation)) (map f a.protected)) (sym (length-map_of f a.protected))
      ∙ ap (λ k. take (length (map f a.protected) - (n - k)) (map f a.protected)) (sym (length-map_of f a.probation)))

  pub map-from_tail : (f : A → B) (a : Areas A) → map f (from_tail a) ≡ from_tail (map_areas f a)
  map-from_tail f a =
      map-append f (reverse a.probation) (reverse a.protected)
      ∙ ap (λ t. t ++ map f (reverse a.protected)) (map-reverse f a.probation)
      ∙ ap (λ t. reverse (map f a.probation) ++ t) (map-reverse f a.protected)

  pub main_weight-map : (f : A → B) (w : B → ℕ) (a : Areas A) → main_weight (λ x. w (f x)) a ≡ main_weight w (map_areas f a)
  main_weight-map f w a =
      ap (λ t. t + sum_by (λ x. w (f x)) a.protected) (sum_by-map f w a.probation)
      ∙ ap (λ t. sum_by w (map f a.probation) + t) (sum_by-map f w a.protected)

  pub map-victims : (f : A → B) (w : B → ℕ) (l : Limits) (a : Areas A) (c : A)
      → map f (victims (λ x. w (f x)) l a c) ≡ victims w l (map_areas f a) (f c)
  map-victims f w l a c =
      map-shortest f w (main_weight (λ x. w (f x)) a + w (f c) - l.main) (from_tail a)
      ∙ ap (λ t. shortest w (t + w (f c) - l.main) (map f (from_tail a))) (main_weight-map f w a)
      ∙ ap (λ t. shortest w (main_weight w (map_areas f a) + w (f c) - l.main) t) (map-from_tail f a)

  map_gone : (f : A → B) (a : Areas A) (gone : List A)
      → map_settled f (settled_by (without_last (length gone) a) gone)
      ≡ settled_by (without_last (length (map f gone)) (map_areas f a)) (map f gone)
  map_gone f a gone =
      same2 _ _ _ _ (map-without_last f (length gone) a ∙ ap (λ n. without_last n (map_areas f a)) (sym (length-map_of f gone)))
      refl

  pub map-trimmed : (f : A → B) (w : B → ℕ) (l : Limits) (a : Areas A)
      → map_settled f (trimmed (λ x. w (f x)) l a) ≡ trimmed w l (map_areas f a)
  map-trimmed f w l a = map_gone f a (shortest (λ x. w (f x)) (main_weight (λ x. w (f x)) a - l.main) (from_tail a))
      ∙ ap (λ g. settled_by (without_last (length g) (map_areas f a)) g)
      (map-shortest f w (main_weight (λ x. w (f x)) a - l.main) (from_tail a)
      ∙ ap (λ t. shortest w (t - l.main) (map f (from_tail a))) (main_weight-map f w a)
      ∙ ap (λ t. shortest w (main_weight w (map_areas f a) - l.main) t) (map-from_tail f a))

  pub map-admitted : (f : A → B) (freq : B → ℕ) (c : A) (a : Areas A) (vs : List A)
      → map_settled f (admitted (λ x. freq (f x)) c a vs) ≡ admitted freq (f c) (map_areas f a) (map f vs)
  map-admitted f freq c a vs =
      ap (λ b. map_settled f (cond b (settled_by (entered c (without_last (length vs) a)) vs) (settled_by a (c ∷ []))))
      (list_all-map f (λ v. nat_lt (freq v) (freq (f c))) vs)
      ∙ go (list_all (λ v. nat_lt (freq v) (freq (f c))) (map f vs))
    where
      go : (b : Bool)
          → map_settled f (cond b (settled_by (entered c (without_last (length vs) a)) vs) (settled_by a (c ∷ [])))
          ≡ cond b (settled_by (entered (f c) (without_last (length (map f vs)) (map_areas f a))) (map f vs))
          (settled_by (map_areas f a) (f c ∷ []))
      go true =
          same2 _ _ _ _ (ap (λ z. entered (f c) z)
          (map-without_last f (length vs) a ∙ ap (λ n. without_last n (map_areas f a)) (sym (length-map_of f vs)))) refl
      go false = refl

  map-and_then : (f : A → B) (gone : List A) (s : Settled A)
      → map_settled f (and_then gone s) ≡ and_then (map f gone) (map_settled f s)
  map-and_then f gone s = same2 _ _ _ _ refl (map-append f gone s.dropped)

  pub map-all_admitted : (f : A → B) (w freq : B → ℕ) (l : Limits) (a : Areas A) (cs : List A)
      → map_settled f (all_admitted (λ x. w (f x)) (λ x. freq (f x)) l a cs) ≡ all_admitted w freq l (map_areas f a) (map f cs)
  map-all_admitted f w freq l a [] = refl
  map-all_admitted f w freq l a (c ∷ cs) =
      let s : Settled A = admitted (λ x. freq (f x)) c a (victims (λ x. w (f x)) l a c) in
      let one : map_settled f s ≡ admitted freq (f c) (map_areas f a) (victims w l (map_areas f a) (f c)) =
      map-admitted f freq c a (victims (λ x. w (f x)) l a c)
      ∙ ap (λ vs. admitted freq (f c) (map_areas f a) vs) (map-victims f w l a c) in
      map-and_then f s.dropped (all_admitted (λ x. w (f x)) (λ x. freq (f x)) l s.areas cs)
      ∙ ap (λ t. and_then (map f s.dropped) t) (map-all_admitted f w freq l s.areas cs)
      ∙ ap (λ (z : Settled B). and_then z.dropped (all_admitted w freq l z.areas (map f cs))) one

  pub map-settle : (f : A → B) (w freq : B → ℕ) (l : Limits) (a : Areas A)
      → map_settled f (settle (λ x. w (f x)) (λ x. freq (f x)) l a) ≡ settle w freq l (map_areas f a)
  map-settle f w freq l a =
      let s : Settled A = trimmed (λ x. w (f x)) l (demoted (λ x. w (f x)) l a) in
      let one : map_settled f s ≡ trimmed w l (demoted w l (map_areas f a)) =
      map-trimmed f w l (demoted (λ x. w (f x)) l a) ∙ ap (λ z. trimmed w l z) (map-demoted f w l a) in
      let cs : List A = reverse (beyond (λ x. w (f x)) l.window a.window) in
      let window : List A = fitting (λ x. w (f x)) l.window a.window in
      let cands : map f cs ≡ reverse (beyond w l.window (map f a.window)) =
      map-reverse f (beyond (λ x. w (f x)) l.window a.window) ∙ ap (λ t. reverse t) (map-beyond f w l.window a.window) in
      map-and_then f s.dropped (all_admitted (λ x. w (f x)) (λ x. freq (f x)) l (narrowed window s.areas) cs)
      ∙ ap (λ t. and_then (map f s.dropped) t) (map-all_admitted f w freq l (narrowed window s.areas) cs)
      ∙ ap (λ t. and_then (map f s.dropped) (all_admitted w freq l (narrowed t (map_areas f s.areas)) (map f cs)))
      (map-fitting f w l.window a.window)
      ∙ ap (λ t. and_then (map f s.dropped)
      (all_admitted w freq l (narrowed (fitting w l.window (map f a.window)) (map_areas f s.areas)) t)) cands
      ∙ ap (λ (z : Settled B). and_then z.dropped (all_admitted w freq l (narrowed (fitting w l.window (map f a.window)) z.areas)
      (reverse (beyond w l.window (map f a.window))))) one
