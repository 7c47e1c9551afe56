-- Lists by number in one ring: what each becomes, and where its nodes stand.
use Rattle.std.specs.Prelude.{not, ◌==◌, ◌||◌, map}
use Rattle.std.proofs.Common.{◌≡◌, ◌≢◌, ℕ, zero, suc, ◌+◌, ◌<◌, ◌≤◌, Bool, true, false, cond, List, [], ◌∷◌, ◌++◌, length, refl}
use Rattle.std.proofs.Common.{sym, ◌∙◌, ap, subst, arith, length-append}
use Rattle.std.proofs.lemmas.Bool.{eqb-true, ne_eqb}
use Rattle.tc_model.specs.Ring.{Linked, IsAway, AreDistinct, HasPlace, cut_next, cut_prev}
use Rattle.tc_model.specs.Chains.{marked, AreChained, AreLinked, EachDistinct, fronted, without_node, is_among}
use Rattle.tc_model.proofs.Rings.{away_both}
use Rattle.tc_model.proofs.Chained.{among-append, away_out, chained_cut, node_place, are_linked, each_distinct}
use Rattle.tc_model.proofs.Counted.{ring_length}
use Rattle.tc_wheel.specs.Kept.{list_at}

-- a node at the front of a list

pub fronted_here : (i n : ℕ) (lists : List (List ℕ)) → i < length lists → list_at i (fronted i n lists) ≡ n ∷ list_at i lists
fronted_here i n [] h = absurd (omega arith)
fronted_here zero n (xs ∷ xss) h = refl
fronted_here (suc i) n (xs ∷ xss) h = fronted_here i n xss (omega arith)

pub fronted_there : (i j n : ℕ) (lists : List (List ℕ)) → i ≢ j → list_at i (fronted j n lists) ≡ list_at i lists
fronted_there i j n [] ne = refl
fronted_there zero zero n (xs ∷ xss) ne = absurd (ne refl)
fronted_there zero (suc j) n (xs ∷ xss) ne = refl
fronted_there (suc i) zero n (xs ∷ xss) ne = refl
fronted_there (suc i) (suc j) n (xs ∷ xss) ne = fronted_there i j n xss (λ e. ne (ap suc e))

pub length-fronted : (i n : ℕ) (lists : List (List ℕ)) → length (fronted i n lists) ≡ length lists
length-fronted i n [] = refl
length-fronted zero n (xs ∷ xss) = refl
length-fronted (suc i) n (xs ∷ xss) = ap suc (length-fronted i n xss)

-- all lists without a node

pub list_at-without : (i n : ℕ) (lists : List (List ℕ))
    → list_at i (map (without_node n) lists) ≡ without_node n (list_at i lists)
list_at-without i n [] = refl
list_at-without zero n (xs ∷ xss) = refl
list_at-without (suc i) n (xs ∷ xss) = list_at-without i n xss

pub length-without_all : (n : ℕ) (lists : List (List ℕ)) → length (map (without_node n) lists) ≡ length lists
length-without_all n [] = refl
length-without_all n (xs ∷ xss) = ap suc (length-without_all n xss)

pub among_own : (n : ℕ) (xs : List ℕ) → is_among n (without_node n xs) ≡ false
among_own n [] = refl
among_own n (x ∷ xs) = go (x == n) refl (among_own n xs)
  where
    go : (b : Bool) → (x == n) ≡ b → is_among n (without_node n xs) ≡ false
        → is_among n (cond (not b) (x ∷ without_node n xs) (without_node n xs)) ≡ false
    go true e k = k
    go false e k = rw e k

pub among_other : (n m : ℕ) (xs : List ℕ) → m ≢ n → is_among m (without_node n xs) ≡ is_among m xs
among_other n m [] ne = refl
among_other n m (x ∷ xs) ne = go (x == n) refl (among_other n m xs ne)
  where
    go : (b : Bool) → (x == n) ≡ b → is_among m (without_node n xs) ≡ is_among m xs
        → is_among m (cond (not b) (x ∷ without_node n xs) (without_node n xs)) ≡ is_among m (x ∷ xs)
    go true e k = let other : (x == m) ≡ false = ne_eqb x m (λ q. ne (sym q ∙ eqb-true x n e)) in rw other k
    go false e k = ap (λ t. (x == m) || t) k

-- a node of none of the lists is away from the ring
pub away_marked : (n m : ℕ) (lists : List (List ℕ)) → m + length lists ≤ n
    → ((i : ℕ) → i < length lists → is_among n (list_at i lists) ≡ false) → IsAway n (marked m lists)
away_marked n m [] h out = tt
away_marked n m (xs ∷ xss) h out = (
  omega arith,
  away_both n xs (marked (suc m) xss) (away_out n xs (out 0 (omega arith)))
      (away_marked n (suc m) xss (omega arith) (λ i h. out (suc i) (omega arith))),
)

or_true : (b : Bool) → (b || true) ≡ true
or_true true = refl
or_true false = refl

-- a node of a list stands in the ring
pub among_marked : (n i m : ℕ) (lists : List (List ℕ)) → is_among n (list_at i lists) ≡ true → is_among n (marked m lists) ≡ true
among_marked n i m [] h = absurd (cc)
among_marked n zero m (xs ∷ xss) h =
    ap (λ b. (m == n) || b) (among-append n xs (marked (suc m) xss) ∙ ap (λ b. b || is_among n (marked (suc m) xss)) h)
    ∙ or_true (m == n)
among_marked n (suc i) m (xs ∷ xss) h =
    ap (λ b. (m == n) || b)
    (among-append n xs (marked (suc m) xss) ∙ ap (λ b. is_among n xs || b) (among_marked n i (suc m) xss h)
    ∙ or_true (is_among n xs))
    ∙ or_true (m == n)

-- behind the first mark
among_behind : (n : ℕ) (xs : List ℕ) (xss : List (List ℕ)) → length (xs ∷ xss) ≤ n → is_among n (marked 0 (xs ∷ xss)) ≡ true
    → is_among n (xs ++ marked 1 xss) ≡ true
among_behind n xs xss big h = let stays : (0 == n) ≡ false = ne_eqb 0 n (omega arith) in sym (rw stays refl) ∙ h

pub cut_at : (next prev : List ℕ) (n i : ℕ) (lists : List (List ℕ)) → length lists ≤ n → is_among n (list_at i lists) ≡ true
    → AreChained next prev lists
    → AreChained (cut_next next prev n) (cut_prev next prev n) (map (without_node n) lists)
cut_at next prev n i [] big h ring = absurd (cc)
cut_at next prev n i (xs ∷ xss) big h ring =
    chained_cut next prev n xs xss big (among_behind n xs xss big (among_marked n i 0 (xs ∷ xss) h)) ring

pub place_at : (next prev : List ℕ) (n i : ℕ) (lists : List (List ℕ)) → length lists ≤ n → is_among n (list_at i lists) ≡ true
    → AreChained next prev lists → HasPlace next prev n
place_at next prev n i [] big h ring = absurd (cc)
place_at next prev n i (xs ∷ xss) big h ring =
    node_place next prev n xs xss (among_behind n xs xss big (among_marked n i 0 (xs ∷ xss) h)) ring

-- a list is no longer than the nodes that are no marks
length_marked : (m : ℕ) (lists : List (List ℕ)) → length lists ≤ length (marked m lists)
length_marked m [] = omega arith
length_marked m (xs ∷ xss) = omega (arith, length-append xs (marked (suc m) xss), length_marked (suc m) xss)

length_listed : (i m : ℕ) (lists : List (List ℕ)) → i < length lists
    → length (list_at i lists) + length lists ≤ length (marked m lists)
length_listed i m [] h = absurd (omega arith)
length_listed zero m (xs ∷ xss) h = omega (arith, length-append xs (marked (suc m) xss), length_marked (suc m) xss)
length_listed (suc i) m (xs ∷ xss) h =
    omega (arith, length-append xs (marked (suc m) xss), length_listed i (suc m) xss (omega arith))

pub chain_length : (next prev : List ℕ) (lists : List (List ℕ)) → AreChained next prev lists → length lists ≤ length next
chain_length next prev [] ring = omega arith
chain_length next prev (xs ∷ xss) ring =
    omega (arith, length_marked 0 (xs ∷ xss), ring_length next prev 0 (xs ++ marked 1 xss) ring)

pub list_short : (next prev : List ℕ) (i : ℕ) (lists : List (List ℕ)) → i < length lists → AreChained next prev lists
    → length (list_at i lists) + length lists ≤ length next
list_short next prev i [] h ring = absurd (omega arith)
list_short next prev i (xs ∷ xss) h ring =
    omega (arith, length_listed i 0 (xs ∷ xss) h, ring_length next prev 0 (xs ++ marked 1 xss) ring)

-- no list has a node twice
distinct_listed : (i : ℕ) (lists : List (List ℕ)) → EachDistinct lists → AreDistinct (list_at i lists)
distinct_listed i [] h = tt
distinct_listed zero (xs ∷ xss) h = h.0
distinct_listed (suc i) (xs ∷ xss) h = distinct_listed i xss h.1

pub list_distinct : (next prev : List ℕ) (i : ℕ) (lists : List (List ℕ)) → AreChained next prev lists
    → AreDistinct (list_at i lists)
list_distinct next prev i [] ring = tt
list_distinct next prev i (xs ∷ xss) ring = distinct_listed i (xs ∷ xss) (each_distinct 0 (xs ∷ xss) ring.distinct)

-- a list is linked from its mark to the next one, the last to the first mark

linked_between : (next prev : List ℕ) (m b at i : ℕ) (lists : List (List ℕ)) → at ≡ m + i → suc i < length lists
    → AreLinked next prev m lists b → Linked next prev at (list_at i lists) (suc at)
linked_between next prev m b at i [] e h k = absurd (omega arith)
linked_between next prev m b at i (xs ∷ []) e h k = absurd (omega arith)
linked_between next prev m b at zero (xs ∷ ys ∷ yss) e h k =
    let same : m ≡ at = omega arith in subst (λ z. Linked next prev z xs (suc z)) same k.0
linked_between next prev m b at (suc i) (xs ∷ ys ∷ yss) e h k =
    linked_between next prev (suc m) b at i (ys ∷ yss) (omega arith) (omega arith) k.1

linked_end : (next prev : List ℕ) (m b at i : ℕ) (lists : List (List ℕ)) → at ≡ m + i → suc i ≡ length lists
    → AreLinked next prev m lists b → Linked next prev at (list_at i lists) b
linked_end next prev m b at i [] e h k = absurd (omega arith)
linked_end next prev m b at zero (xs ∷ []) e h k = let same : m ≡ at = omega arith in subst (λ z. Linked next prev z xs b) same k
linked_end next prev m b at (suc i) (xs ∷ []) e h k = absurd (omega arith)
linked_end next prev m b at zero (xs ∷ ys ∷ yss) e h k = absurd (omega arith)
linked_end next prev m b at (suc i) (xs ∷ ys ∷ yss) e h k =
    linked_end next prev (suc m) b at i (ys ∷ yss) (omega arith) (omega arith) k.1

pub bucket_linked : (next prev : List ℕ) (i : ℕ) (lists : List (List ℕ)) → suc i < length lists → AreChained next prev lists
    → Linked next prev i (list_at i lists) (suc i)
bucket_linked next prev i [] h ring = absurd (omega arith)
bucket_linked next prev i (xs ∷ xss) h ring =
    linked_between next prev 0 0 i i (xs ∷ xss) (omega arith) h (are_linked next prev 0 0 xs xss ring.linked)

pub last_linked : (next prev : List ℕ) (i : ℕ) (lists : List (List ℕ)) → suc i ≡ length lists → AreChained next prev lists
    → Linked next prev i (list_at i lists) 0
last_linked next prev i [] h ring = absurd (omega arith)
last_linked next prev i (xs ∷ xss) h ring =
    linked_end next prev 0 0 i i (xs ∷ xss) (omega arith) h (are_linked next prev 0 0 xs xss ring.linked)
