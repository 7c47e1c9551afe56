-- Bytes in places of one size, which are the same behind a count.
use Rattle.std.specs.Prelude.{not, ◌&&◌}
use Rattle.std.specs.Str.{bytes_eq}
use Rattle.std.proofs.Common.{◌≡◌, ◌≢◌, ℕ, zero, suc, ◌+◌, ◌*◌, ◌%◌, ◌^◌, ◌≤◌, ◌-◌, Bool, true, false, cond, List, [], ◌∷◌, length, take, drop, replicate, eqb}
use Rattle.std.proofs.Common.{refl, sym, ap, ap₂, ◌∙◌, arith}
use Rattle.std.proofs.lemmas.Bool.{eq-eqb, ne_eqb}
use Rattle.std.proofs.lemmas.List.{take_all, length-drop, length-take-le, drop-drop, drop-take}
use Rattle.std.proofs.lemmas.Simd.{mask_l-mod, length-zip2}
use lib.Lanes.{zip2, mask_l}

same_self : (xs : List ℕ) → bytes_eq xs xs ≡ true
same_self [] = refl
same_self (x ∷ xs) = rw (eq-eqb x x refl) (same_self xs)

-- what is the same behind so many places is the same where these are
same_by_front : (n : ℕ) (xs ys : List ℕ) → drop n xs ≡ drop n ys → bytes_eq xs ys ≡ bytes_eq (take n xs) (take n ys)
same_by_front zero xs ys e = ap (bytes_eq xs) (sym e) ∙ same_self xs
same_by_front (suc n) [] [] e = refl
same_by_front (suc n) [] (y ∷ ys) e = refl
same_by_front (suc n) (x ∷ xs) [] e = refl
same_by_front (suc n) (x ∷ xs) (y ∷ ys) e = ap (λ b. eqb x y && b) (same_by_front n xs ys e)

-- lists of other lengths are not the same
other_length : (xs ys : List ℕ) → length xs ≢ length ys → bytes_eq xs ys ≡ false
other_length [] [] h = absurd (h refl)
other_length [] (y ∷ ys) h = refl
other_length (x ∷ xs) [] h = refl
other_length (x ∷ xs) (y ∷ ys) h = go (eqb x y) (other_length xs ys (λ e. h (ap suc e)))
  where
    go : (b : Bool) {c : Bool} → c ≡ false → (b && c) ≡ false
    go true e = e
    go false e = refl

-- places of which as many are filled are the same where these are
pub filled_alike : (n k m : ℕ) (xs ys : List ℕ) → k ≡ m → drop k xs ≡ replicate (n - k) 0 → drop m ys ≡ replicate (n - m) 0
    → bytes_eq xs ys ≡ bytes_eq (take k xs) (take m ys)
filled_alike n k m xs ys same rest other_rest =
    same_by_front k xs ys (rest ∙ (ap (λ l. replicate (n - l) 0) same ∙ (sym other_rest ∙ ap (λ l. drop l ys) (sym same))))
    ∙ ap (λ l. bytes_eq (take k xs) (take l ys)) same

-- places of which another number is filled are not the same where they are filled
pub filled_otherwise : (n k m : ℕ) (xs ys : List ℕ) → length xs ≡ n → length ys ≡ n → k ≤ n → m ≤ n → k ≢ m
    → false ≡ bytes_eq (take k xs) (take m ys)
filled_otherwise n k m xs ys long other_long fits other_fits differs =
    sym (other_length (take k xs) (take m ys) (λ e. differs (omega (
      arith,
      e,
      length-take-le k xs (omega (arith, long, fits)),
      length-take-le m ys (omega (arith, other_long, other_fits)),
    ))))

and-assoc : (a b c : Bool) → (a && (b && c)) ≡ ((a && b) && c)
and-assoc true b c = refl
and-assoc false b c = refl

-- the first n and those behind them
pub same_split : (n : ℕ) (xs ys : List ℕ)
    → bytes_eq xs ys ≡ (bytes_eq (take n xs) (take n ys) && bytes_eq (drop n xs) (drop n ys))
same_split zero xs ys = refl
same_split (suc n) [] [] = refl
same_split (suc n) [] (y ∷ ys) = refl
same_split (suc n) (x ∷ xs) [] = refl
same_split (suc n) (x ∷ xs) (y ∷ ys) =
    ap (λ c. eqb x y && c) (same_split n xs ys)
    ∙ and-assoc (eqb x y) (bytes_eq (take n xs) (take n ys)) (bytes_eq (drop n xs) (drop n ys))

and-again : (a b c : Bool) → ((a && b) && (b && c)) ≡ ((a && b) && c)
and-again true true c = refl
and-again true false c = refl
and-again false b c = refl

-- k + n bytes are the same where their first k + m and their last n are
pub same_overlapping : (k m n : ℕ) (xs ys : List ℕ) → length xs ≡ k + n → length ys ≡ k + n
    → (bytes_eq (take (k + m) xs) (take (k + m) ys) && bytes_eq (take n (drop k xs)) (take n (drop k ys))) ≡ bytes_eq xs ys
same_overlapping k m n xs ys long other_long =
    let front = bytes_eq (take k (take (k + m) xs)) (take k (take (k + m) ys)) in
    let middle = bytes_eq (take m (drop k xs)) (take m (drop k ys)) in
    let back = bytes_eq (drop (k + m) xs) (drop (k + m) ys) in
    let first : bytes_eq (take (k + m) xs) (take (k + m) ys) ≡ (front && middle) =
    same_split k (take (k + m) xs) (take (k + m) ys)
    ∙ ap (λ b. front && b) (ap₂ bytes_eq (drop-take k m xs) (drop-take k m ys)) in
    let last : bytes_eq (take n (drop k xs)) (take n (drop k ys)) ≡ (middle && back) =
    ap₂ bytes_eq (take_all n (drop k xs) (omega (arith, length-drop k xs)))
    (take_all n (drop k ys) (omega (arith, length-drop k ys)))
    ∙ (same_split m (drop k xs) (drop k ys)
    ∙ ap (λ b. middle && b) (ap₂ bytes_eq (drop-drop m k xs) (drop-drop m k ys))) in
    ap₂ (λ a b. a && b) first last
    ∙ (and-again front middle back ∙ (ap (λ b. b && back) (sym first) ∙ sym (same_split (k + m) xs ys)))

no_bit_differs : (xs ys : List ℕ) → length xs ≡ length ys
    → eqb (mask_l (zip2 (λ a b. not (eqb a b)) xs ys)) 0 ≡ bytes_eq xs ys
no_bit_differs [] [] e = refl
no_bit_differs [] (y ∷ ys) e = absurd (omega arith)
no_bit_differs (x ∷ xs) [] e = absurd (omega arith)
no_bit_differs (x ∷ xs) (y ∷ ys) e = go (eqb x y) (mask_l (zip2 (λ a b. not (eqb a b)) xs ys)) (no_bit_differs xs ys (omega arith))
  where
    go : (b : Bool) (m : ℕ) {c : Bool} → eqb m 0 ≡ c → eqb (cond (not b) 1 0 + 2 * m) 0 ≡ (b && c)
    go true zero h = h
    go true (suc m) h = ne_eqb _ 0 (λ e. omega arith) ∙ (sym (ne_eqb (suc m) 0 (λ e. omega arith)) ∙ h)
    go false m h = ne_eqb _ 0 (λ e. omega arith)

-- no lane of a comparison is set where the bytes are the same
pub no_lane_differs : (n : ℕ) (xs ys : List ℕ) → n ≤ 64 → length xs ≡ n → length ys ≡ n
    → eqb (mask_l (zip2 (λ a b. not (eqb a b)) xs ys) % 2 ^ 64) 0 ≡ bytes_eq xs ys
no_lane_differs n xs ys fits long other_long =
    let differs = zip2 (λ a b. not (eqb a b)) xs ys in
    let few : length differs ≤ 64 =
    omega (arith, length-zip2 (λ a b. not (eqb a b)) xs ys (omega arith)) in
    ap (λ m. eqb m 0) (mask_l-mod differs 64 few) ∙ no_bit_differs xs ys (omega arith)
