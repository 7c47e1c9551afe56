-- A candidate whose victims all stand in probation may enter before they are dropped: they are then main's last.
use Rattle.std.specs.Prelude.{nat_lt, reverse, sum_by, ◌==◌}
use Rattle.std.specs.List.{list_all}
use Rattle.std.proofs.Common.{◌≡◌, ℕ, suc, ◌+◌, ◌-◌, ◌<◌, ◌≤◌, Bool, true, false, cond, List, [], ◌∷◌, ◌++◌, length, take, refl}
use Rattle.std.proofs.Common.{sym, ◌∙◌, ap, arith, append_assoc}
use Rattle.std.proofs.lemmas.List.{reverse-append, length-reverse}
use Rattle.std.proofs.lemmas.List.Sums.{sum_by-cons}
use Rattle.tc_model.specs.Areas.{Areas, Limits, fitting, shortest, trimmed, victims, admitted, entered, without_last, from_tail}
use Rattle.tc_model.specs.Areas.{main_weight, settle}
use Rattle.tc_model.proofs.Within.{sum-reverse}
use Rattle.tc_model.proofs.Steps.{areas_by, settled_by, candidates_of, first_of, settle_trimmed, settle_main, candidate}
use Rattle.tc_model.proofs.Steps.{none_shortest}

module _ {A : Type 0} where
  shortest-front : (weigh : A → ℕ) (need : ℕ) (xs ys : List A) → need ≤ sum_by weigh xs
      → shortest weigh need (xs ++ ys) ≡ shortest weigh need xs
  shortest-front weigh need [] ys h =
      let none : need ≡ 0 = omega arith in ap (λ n. shortest weigh n ys) none ∙ none_shortest weigh ys
  shortest-front weigh need (x ∷ xs) ys h =
      go (need == 0) (shortest-front weigh (need - weigh x) xs ys (omega (arith, sum_by-cons weigh x xs)))
    where
      go : (b : Bool) → shortest weigh (need - weigh x) (xs ++ ys) ≡ shortest weigh (need - weigh x) xs
          → cond b [] (x ∷ shortest weigh (need - weigh x) (xs ++ ys)) ≡ cond b [] (x ∷ shortest weigh (need - weigh x) xs)
      go true k = refl
      go false k = ap (λ t. x ∷ t) k

  length-shortest : (weigh : A → ℕ) (need : ℕ) (xs : List A) → length (shortest weigh need xs) ≤ length xs
  length-shortest weigh need [] = omega arith
  length-shortest weigh need (x ∷ xs) = go (need == 0) (length-shortest weigh (need - weigh x) xs)
    where
      go : (b : Bool) → length (shortest weigh (need - weigh x) xs) ≤ length xs
          → length (cond b [] (x ∷ shortest weigh (need - weigh x) xs)) ≤ suc (length xs)
      go true k = omega arith
      go false k = omega arith

  -- probation's victims gone, the candidate before the others
  without_last-entered : (n : ℕ) (w p q : List A) (c : A) → n ≤ length p
      → without_last n (areas_by w (c ∷ p) q) ≡ entered c (without_last n (areas_by w p q))
  without_last-entered n w p q c h =
      let front : length (c ∷ p) - n ≡ suc (length p - n) = omega arith in
      let rest : n - length (c ∷ p) ≡ n - length p = omega arith in
      ap (λ k. areas_by w (take k (c ∷ p)) (take (length q - (n - length (c ∷ p))) q)) front
      ∙ ap (λ k. areas_by w (c ∷ take (length p - n) p) (take (length q - k) q)) rest

  -- rule 3, where main has room, or the candidate's victims are probation's last
  pub settle_overtakes : (weigh freq : A → ℕ) (l : Limits) (w p q : List A) (c : A) → sum_by weigh q ≤ l.protected
      → main_weight weigh (areas_by w p q) ≤ l.main → main_weight weigh (areas_by w p q) + weigh c - l.main ≤ sum_by weigh p
      → l.window < sum_by weigh (w ++ c ∷ [])
      → list_all (λ v. nat_lt (freq v) (freq c)) (victims weigh l (areas_by w p q) c) ≡ true
      → settle weigh freq l (areas_by (w ++ c ∷ []) p q) ≡ settle weigh freq l (areas_by w (c ∷ p) q)
  settle_overtakes weigh freq l w p q c h m need_in x won =
      let window : List A = fitting weigh l.window w in
      let a : Areas A = areas_by window p q in
      let need : ℕ = sum_by weigh p + sum_by weigh q + weigh c - l.main in
      let vs : List A = shortest weigh need (reverse p) in
      let room : need ≤ sum_by weigh (reverse p) = omega (arith, sum-reverse weigh p) in
      let gone : victims weigh l a c ≡ vs = shortest-front weigh need (reverse p) (reverse q) room in
      let few : length vs ≤ length p = omega (arith, length-shortest weigh need (reverse p), length-reverse p) in
      let enters : admitted freq c a (victims weigh l a c) ≡ settled_by (entered c (without_last (length vs) a)) vs =
      ap (λ b. cond b (settled_by (entered c (without_last (length (victims weigh l a c)) a)) (victims weigh l a c))
      (settled_by a (c ∷ []))) won
      ∙ ap (λ g. settled_by (entered c (without_last (length g) a)) g) gone in
      let tail : from_tail (areas_by w (c ∷ p) q) ≡ reverse p ++ c ∷ reverse q =
      ap (λ t. t ++ reverse q) (reverse-append (c ∷ []) p) ∙ append_assoc (reverse p) (c ∷ []) (reverse q) in
      let same : main_weight weigh (areas_by w (c ∷ p) q) - l.main ≡ need = omega (arith, sum_by-cons weigh c p) in
      let behind : shortest weigh (main_weight weigh (areas_by w (c ∷ p) q) - l.main) (from_tail (areas_by w (c ∷ p) q)) ≡ vs =
      ap (λ n. shortest weigh n (from_tail (areas_by w (c ∷ p) q))) same ∙ ap (λ t. shortest weigh need t) tail
      ∙ shortest-front weigh need (reverse p) (c ∷ reverse q) room in
      let trims : trimmed weigh l (areas_by w (c ∷ p) q) ≡ settled_by (entered c (without_last (length vs) (areas_by w p q))) vs =
      ap (λ g. settled_by (without_last (length g) (areas_by w (c ∷ p) q)) g) behind
      ∙ ap (λ z. settled_by z vs) (without_last-entered (length vs) w p q c few) in
      settle_main weigh freq l (areas_by (w ++ c ∷ []) p q) h m ∙ candidate weigh freq l w p q c x
      ∙ ap (λ s. first_of weigh freq l w c s) enters
      ∙ sym (settle_trimmed weigh freq l (areas_by w (c ∷ p) q) h ∙ ap (λ s. candidates_of weigh freq l w s) trims)
