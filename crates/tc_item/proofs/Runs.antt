-- Runs of bytes that pass a test, one by one and sixteen at a time.
use Rattle.std.proofs.Common.{◌≡◌, ◌≢◌, ◌⊎◌, ℕ, zero, suc, ◌+◌, ◌-◌, ◌%◌, ◌^◌, ◌<◌, ◌≤◌, eqb}
use Rattle.std.proofs.Common.{Bool, true, false, not, ◌&&◌, cond, List, [], ◌∷◌}
use Rattle.std.proofs.Common.{map, length, get_or, take, drop, Fits, w8, w64, refl, sym, ap, ap₂, ◌∙◌, subst, arith, inl, inr}
use Rattle.std.proofs.lemmas.Bool.{agree_below, agree_below_at, cases_eq, cases_lt, eq-eqb, ne_eqb, cond-true, cond-false}
use Rattle.std.proofs.lemmas.Simd.{map-map, mask_l-mod, length-chunk, get_or-chunk, leading_from_mask_l, trailing_mask_l}
use Rattle.std.proofs.lemmas.List.{length-map, length-take-le, take-append-drop, length-drop, drop-drop}
use Rattle.std.proofs.lemmas.List.Folds.{prefix_len-append, list_all_at}
use Rattle.std.proofs.lemmas.List.Elements.{All-from_get_or}
use Rattle.std.proofs.lemmas.List.Sums.{list_all-from_AllPass, prefix_len-le-length, prefix_len_passes, prefix_len_stops}
use Rattle.std.specs.Int.{trailing_zeros}
use Rattle.std.specs.List.{prefix_len, list_all}
use lib.Lanes.{chunk, zip2, mask_l, top}

zip2-map : (h : ℕ → ℕ → ℕ) (f g : ℕ → ℕ) (xs : List ℕ) → zip2 h (map f xs) (map g xs) ≡ map (λ x. h (f x) (g x)) xs
zip2-map h f g [] = refl
zip2-map h f g (x ∷ xs) = ap (λ r. h (f x) (g x) ∷ r) (zip2-map h f g xs)

-- an operation on two vectors that were computed lane by lane from v
pub joined : (h : ℕ → ℕ → ℕ) (f g : ℕ → ℕ) (v : List ℕ) {a b : List ℕ} → a ≡ map f v → b ≡ map g v
    → zip2 h a b ≡ map (λ x. h (f x) (g x)) v
joined h f g v p q = ap₂ (zip2 h) p q ∙ zip2-map h f g v

-- the lowest bit that is set is that of the first element that passes
lowest_is : (p : ℕ → Bool) (v : List ℕ) (n : ℕ) → length v ≡ n → n ≤ 64
    → cond (eqb (mask_l (map p v)) 0) n (trailing_zeros w64 (mask_l (map p v))) ≡ prefix_len (λ x. not (p x)) v
lowest_is p v n long few =
    elim (cases_eq (mask_l (map p v)) 0) [
      | inl none ↦ cond-true _ _ _ (eq-eqb _ _ none) ∙ sym (leading_from_mask_l p v none ∙ long)
      | inr some ↦ cond-false _ _ _ (ne_eqb _ _ some) ∙ trailing_mask_l p 64 v (omega arith) (omega arith)
    ]

-- two tests that agree on each element
agreeing : (p q : ℕ → Bool) (v : List ℕ) → ((k : ℕ) → k < length v → p (get_or v k 0) ≡ q (get_or v k 0))
    → prefix_len p v ≡ prefix_len q v
agreeing p q [] h = refl
agreeing p q (x ∷ xs) h =
    ap₂ (λ b n. cond b (1 + n) 0) (h 0 (omega arith)) (agreeing p q xs (λ k below. h (suc k) (omega arith)))

-- from the mask of one load to the bytes before the first that fails q, where a lane stops just there
pub run_in : (q : ℕ → Bool) (d : List ℕ) (i n r : ℕ) (z : List ℕ) → i + n ≤ length d → n ≤ 64
    → ((k : ℕ) → Fits w8 (get_or d k 0))
    → r ≡ cond (eqb (mask_l (map (top 7) z) % 2 ^ 64) 0) n (trailing_zeros w64 (mask_l (map (top 7) z) % 2 ^ 64))
    → (f : ℕ → ℕ) → z ≡ map f (chunk i n d) → agree_below (λ x. not (top 7 (f x))) q 256 ≡ true
    → r ≡ prefix_len q (chunk i n d)
run_in q d i n r z room few fits found f lanes all =
    let v = chunk i n d in
    let stops : ℕ → Bool = λ x. top 7 (f x) in
    let long = length-chunk i n d room in
    let mask = ap (λ l. mask_l l % 2 ^ 64) (ap (map (top 7)) lanes ∙ map-map (top 7) f v)
    ∙ mask_l-mod (map stops v) 64 (omega (arith, length-map v stops, long)) in
    found ∙ ap (λ m. cond (eqb m 0) n (trailing_zeros w64 m)) mask ∙ lowest_is stops v n long few
    ∙ agreeing (λ x. not (stops x)) q v (λ k below.
    let at = get_or-chunk i n d k 0 (omega (arith, long)) in
    ap (λ x. not (stops x)) at
    ∙ (agree_below_at (λ x. not (stops x)) q 256 (get_or d (i + k) 0) all (fits (i + k)).fits ∙ ap q (sym at)))

-- a run through the first n elements goes on behind them, and one that ends there ends for all
pub run_on : (q : ℕ → Bool) (xs : List ℕ) (n : ℕ) → n ≤ length xs
    → prefix_len q xs ≡ cond (eqb (prefix_len q (take n xs)) n) (n + prefix_len q (drop n xs)) (prefix_len q (take n xs))
run_on q xs n h =
    let long : length (take n xs) ≡ n = length-take-le n xs h in
    ap (prefix_len q) (sym (take-append-drop n xs)) ∙ prefix_len-append q (take n xs) (drop n xs)
    ∙ ap (λ m. cond (eqb (prefix_len q (take n xs)) m) (m + prefix_len q (drop n xs)) (prefix_len q (take n xs))) long

-- a run through the n elements from at on goes on behind them
pub run_past : (q : ℕ → Bool) (xs : List ℕ) (at n : ℕ) → at + n ≤ length xs → prefix_len q (take n (drop at xs)) ≡ n
    → at + n + prefix_len q (drop (at + n) xs) ≡ at + prefix_len q (drop at xs)
run_past q xs at n room all =
    let on = run_on q (drop at xs) n (omega (arith, length-drop at xs)) in
    let past = on ∙ cond-true _ _ _ (eq-eqb _ _ all) in
    let behind = ap (prefix_len q) (drop-drop n at xs) in
    omega (arith, past, behind)

-- and one that ends among them ends for all
pub run_ends : (q : ℕ → Bool) (xs : List ℕ) (at n : ℕ) → at + n ≤ length xs → prefix_len q (take n (drop at xs)) < n
    → prefix_len q (drop at xs) ≡ prefix_len q (take n (drop at xs))
run_ends q xs at n room few =
    run_on q (drop at xs) n (omega (arith, length-drop at xs))
    ∙ cond-false _ _ _ (ne_eqb _ _ (λ (e : prefix_len q (take n (drop at xs)) ≡ n). omega arith))

-- a run through all elements
pub through_all : (q : ℕ → Bool) (xs : List ℕ) → eqb (prefix_len q xs) (length xs) ≡ list_all q xs
through_all q [] = refl
through_all q (x ∷ xs) = go (q x) (cases_eq (prefix_len q xs) (length xs)) (through_all q xs)
  where
    go : (b : Bool) → (prefix_len q xs ≡ length xs) ⊎ (prefix_len q xs ≢ length xs)
        → eqb (prefix_len q xs) (length xs) ≡ list_all q xs
        → eqb (cond b (1 + prefix_len q xs) 0) (suc (length xs)) ≡ (b && list_all q xs)
    go true (inl same) h = eq-eqb _ _ (omega arith) ∙ (sym (eq-eqb _ _ same) ∙ h)
    go true (inr other) h = ne_eqb _ _ (λ e. other (omega arith)) ∙ (sym (ne_eqb _ _ other) ∙ h)
    go false cases h = ne_eqb 0 (suc (length xs)) (λ e. omega arith)

-- a run through n elements goes through fewer
pub run_shorter : (q : ℕ → Bool) (xs : List ℕ) (m n : ℕ) → m ≤ n → n ≤ length xs → prefix_len q (take n xs) ≡ n
    → prefix_len q (take m xs) ≡ m
run_shorter q xs zero n le room all = refl
run_shorter q xs (suc m) zero le room all = absurd (omega arith)
run_shorter q [] (suc m) (suc n) le room all = absurd (omega arith)
run_shorter q (x ∷ xs) (suc m) (suc n) le room all = go (q x) (run_shorter q xs m n (omega arith) (omega arith)) all
  where
    go : (b : Bool) → (prefix_len q (take n xs) ≡ n → prefix_len q (take m xs) ≡ m)
        → cond b (1 + prefix_len q (take n xs)) 0 ≡ suc n → cond b (1 + prefix_len q (take m xs)) 0 ≡ suc m
    go true h e = omega (arith, h (omega arith))
    go false h e = absurd (omega arith)

-- the last elements decide where a run ends, where those before some of them are known to pass
pub run_behind : (q : ℕ → Bool) (xs : List ℕ) (at n : ℕ) → at ≤ n → n ≤ length xs → prefix_len q (take n xs) ≡ n
    → at + prefix_len q (drop at xs) ≡ prefix_len q xs
run_behind q xs at n le room all =
    let past = run_past q xs 0 at (omega arith) (run_shorter q xs at n le room all) in
    let same : 0 + at ≡ at = omega arith in
    let behind = ap (λ k. prefix_len q (drop k xs)) same in
    omega (arith, past, behind)

-- the elements of a run through n elements pass
pub run_passes : (q : ℕ → Bool) (d : List ℕ) (at n : ℕ) → at + n ≤ length d → prefix_len q (take n (drop at d)) ≡ n
    → (k : ℕ) → at ≤ k → k < at + n → q (get_or d k 0) ≡ true
run_passes q d at n room all k from to =
    let back : at + (k - at) ≡ k = omega arith in
    let here = get_or-chunk at n d (k - at) 0 (omega arith) ∙ ap (λ j. get_or d j 0) back in
    subst (λ x. q x ≡ true) here (prefix_len_passes q (take n (drop at d)) (k - at) 0 (omega (arith, all)))

-- one that ends among them shows an element that fails
pub run_fails : (q : ℕ → Bool) (d : List ℕ) (at n : ℕ) → at + n ≤ length d
    → prefix_len q (take n (drop at d)) < n → list_all q d ≡ false
run_fails q d at n room few =
    let r = prefix_len q (take n (drop at d)) in
    let long = length-chunk at n d room in
    let here = get_or-chunk at n d r 0 few in
    list_all_at q d (at + r) 0 (omega arith)
    (subst (λ x. q x ≡ false) here (prefix_len_stops q (take n (drop at d)) 0 (omega (arith, long))))

-- the last n elements decide, where those before some of them are known to pass
pub last_decides : (q : ℕ → Bool) (d : List ℕ) (at n seen : ℕ) → at + n ≡ length d → at ≤ seen
    → ((k : ℕ) → k < seen → q (get_or d k 0) ≡ true) → eqb (prefix_len q (take n (drop at d))) n ≡ list_all q d
last_decides q d at n seen whole overlaps front =
    let room : at + n ≤ length d = omega arith in
    let few : prefix_len q (take n (drop at d)) ≤ n =
    omega (arith, prefix_len-le-length q (take n (drop at d)), length-chunk at n d room) in
    elim (cases_eq (prefix_len q (take n (drop at d))) n) [
      | inl all ↦
          eq-eqb _ _ all
          ∙ sym (list_all-from_AllPass q d (All-from_get_or (λ x. q x ≡ true) d 0 (λ k inside. elim (cases_lt k seen) [
            | inl early ↦ front k early
            | inr late ↦ run_passes q d at n room all k (omega arith) (omega arith)
          ])))
      | inr other ↦ ne_eqb _ _ other ∙ sym (run_fails q d at n room (omega arith))
    ]
