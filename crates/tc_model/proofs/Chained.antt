-- What lists in one ring become where a node is taken out or put at a list's front.
use Rattle.std.specs.Prelude.{slice_index, reverse, not, ◌==◌, ◌||◌, map}
use Rattle.std.proofs.Common.{◌≡◌, ℕ, zero, suc, ◌+◌, ◌<◌, ◌≤◌, Bool, true, false, cond, List, [], ◌∷◌, ◌++◌, length, refl, sym}
use Rattle.std.proofs.Common.{◌∙◌, ap, subst, arith, append_assoc, length-append}
use Rattle.std.proofs.lemmas.Bool.{eqb-true, eqb-false, ne_eqb}
use Rattle.std.proofs.lemmas.List.{reverse-append}
use Rattle.std.proofs.lemmas.List.Elements.{filter-append}
use Rattle.tc_model.specs.Ring.{Linked, IsAway, AreDistinct, AreBelow, IsRing, HasPlace, walk, put_next, put_prev, cut_next}
use Rattle.tc_model.specs.Ring.{cut_prev}
use Rattle.tc_model.specs.Chains.{is_node, marked, IsLoop, AreChained, AreLinked, EachDistinct, fronted, without_node, is_among}
use Rattle.tc_model.proofs.Rings.{linked_split, ring_cut, ring_put, ring_put_first, away_append, below_append, split}
use Rattle.tc_model.proofs.Rings.{IsSplit}

pub append_nil : (xs : List ℕ) → xs ++ [] ≡ xs
append_nil [] = refl
append_nil (x ∷ xs) = ap (λ t. x ∷ t) (append_nil xs)

-- a node is put in behind another

pub loop_put : (next prev us : List ℕ) (before : ℕ) (vs : List ℕ) (at : ℕ) → IsLoop next prev (us ++ before ∷ vs)
    → IsAway at (us ++ before ∷ vs) → at < length next
    → IsLoop (put_next next before at) (put_prev next prev before at) (us ++ before ∷ at ∷ vs)
loop_put next prev [] before vs at ring away within =
    ring_put_first next prev before at vs ring (record { first = away.0; others = away.1; within = within })
loop_put next prev (u ∷ us) before vs at ring away within =
    ring_put next prev u before at us vs ring (record { first = away.0; others = away.1; within = within })

-- where a mark stands
record MarkAt (m i n : ℕ) (lists : List (List ℕ)) : Type 0 where
  before : List ℕ
  behind : List ℕ
  mark : ℕ
  is_mark : mark ≡ m + i
  is : marked m lists ≡ before ++ mark ∷ behind
  then : marked m (fronted i n lists) ≡ before ++ mark ∷ n ∷ behind

mark_at : (m i n : ℕ) (lists : List (List ℕ)) → i < length lists → MarkAt m i n lists
mark_at m i n [] h = absurd (omega arith)
mark_at m zero n (xs ∷ xss) h = record {
  before = [];
  behind = xs ++ marked (suc m) xss;
  mark = m;
  is_mark = omega arith;
  is = refl;
  then = refl;
}
mark_at m (suc i) n (xs ∷ xss) h =
    let s : MarkAt (suc m) i n xss = mark_at (suc m) i n xss (omega arith) in
    record {
      before = m ∷ (xs ++ s.before);
      behind = s.behind;
      mark = s.mark;
      is_mark = omega (arith, s.is_mark);
      is = ap (λ t. m ∷ (xs ++ t)) s.is ∙ ap (λ t. m ∷ t) (sym (append_assoc xs s.before (s.mark ∷ s.behind)));
      then = ap (λ t. m ∷ (xs ++ t)) s.then ∙ ap (λ t. m ∷ t) (sym (append_assoc xs s.before (s.mark ∷ n ∷ s.behind)));
    }

-- a node is put at the front of list i
pub chained_put : (next prev : List ℕ) (i n : ℕ) (lists : List (List ℕ)) → i < length lists → n < length next
    → IsAway n (marked 0 lists) → AreChained next prev lists
    → AreChained (put_next next i n) (put_prev next prev i n) (fronted i n lists)
chained_put next prev i n lists inside within away ring =
    let s : MarkAt 0 i n lists = mark_at 0 i n lists inside in
    let own : s.mark ≡ i = omega (arith, s.is_mark) in
    let done : IsLoop (put_next next s.mark n) (put_prev next prev s.mark n) (s.before ++ s.mark ∷ n ∷ s.behind)
    = loop_put next prev s.before s.mark s.behind n (subst (λ r. IsLoop next prev r) s.is ring)
    (subst (λ r. IsAway n r) s.is away) within in
    subst (λ j. IsLoop (put_next next j n) (put_prev next prev j n) (marked 0 (fronted i n lists))) own
    (subst (λ r. IsLoop (put_next next s.mark n) (put_prev next prev s.mark n) r) (sym s.then) done)

-- a node is taken out

-- where a node stands in a list
pub record Found (n : ℕ) (xs : List ℕ) : Type 0 where
  pub before : List ℕ
  pub behind : List ℕ
  pub is : xs ≡ before ++ n ∷ behind

pub find : (n : ℕ) (xs : List ℕ) → is_among n xs ≡ true → Found n xs
find n [] h = absurd (cc)
find n (x ∷ xs) h = go (x == n) refl h (find n xs)
  where
    go : (b : Bool) → (x == n) ≡ b → (b || is_among n xs) ≡ true → (is_among n xs ≡ true → Found n xs) → Found n (x ∷ xs)
    go true e h later = record { before = []; behind = xs; is = ap (λ z. z ∷ xs) (eqb-true x n e) }
    go false e h later =
        let f : Found n xs = later h in record { before = x ∷ f.before; behind = f.behind; is = ap (λ ys. x ∷ ys) f.is }

pub among-append : (n : ℕ) (xs ys : List ℕ) → is_among n (xs ++ ys) ≡ (is_among n xs || is_among n ys)
among-append n [] ys = refl
among-append n (x ∷ xs) ys = go (x == n) (among-append n xs ys)
  where
    go : (b : Bool) → is_among n (xs ++ ys) ≡ (is_among n xs || is_among n ys)
        → (b || is_among n (xs ++ ys)) ≡ ((b || is_among n xs) || is_among n ys)
    go true h = refl
    go false h = h

-- what is not among these is away from them
pub away_out : (n : ℕ) (xs : List ℕ) → is_among n xs ≡ false → IsAway n xs
away_out n [] h = tt
away_out n (x ∷ xs) h = go (x == n) refl h (away_out n xs)
  where
    go : (b : Bool) → (x == n) ≡ b → (b || is_among n xs) ≡ false → (is_among n xs ≡ false → IsAway n xs) → IsAway n (x ∷ xs)
    go true e h later = absurd (cc)
    go false e h later = ((λ f. eqb-false x n e (sym f)), later h)

pub without-away : (n : ℕ) (xs : List ℕ) → IsAway n xs → without_node n xs ≡ xs
without-away n [] h = refl
without-away n (x ∷ xs) h =
    let no : (x == n) ≡ false = ne_eqb x n (λ e. h.0 (sym e)) in rw no (ap (λ ys. x ∷ ys) (without-away n xs h.1))

pub without-found : (n : ℕ) (us vs : List ℕ) → IsAway n us → IsAway n vs → without_node n (us ++ n ∷ vs) ≡ us ++ vs
without-found n us vs a b =
    filter-append (λ x. not (is_node n x)) us (n ∷ vs) ∙ ap (λ ys. ys ++ without_node n (n ∷ vs)) (without-away n us a)
    ∙ ap (λ ys. us ++ ys) (here (n == n) refl)
  where
    here : (t : Bool) → (n == n) ≡ t → cond (not t) (n ∷ without_node n vs) (without_node n vs) ≡ vs
    here true e = without-away n vs b
    here false e = absurd (eqb-false n n e refl)

-- marks stay
without-marked : (n m : ℕ) (lists : List (List ℕ)) → m + length lists ≤ n
    → without_node n (marked m lists) ≡ marked m (map (without_node n) lists)
without-marked n m [] h = refl
without-marked n m (xs ∷ xss) h =
    let stays : (m == n) ≡ false = ne_eqb m n (omega arith) in
    rw stays (ap (λ t. m ∷ t)
    (filter-append (λ x. not (is_node n x)) xs (marked (suc m) xss)
    ∙ ap (λ t. without_node n xs ++ t) (without-marked n (suc m) xss (omega arith))))

-- a node of a list is taken out of the ring
pub chained_cut : (next prev : List ℕ) (n : ℕ) (xs : List ℕ) (xss : List (List ℕ)) → length (xs ∷ xss) ≤ n
    → is_among n (xs ++ marked 1 xss) ≡ true → AreChained next prev (xs ∷ xss)
    → AreChained (cut_next next prev n) (cut_prev next prev n) (map (without_node n) (xs ∷ xss))
chained_cut next prev n xs xss big held ring =
    let f : Found n (xs ++ marked 1 xss) = find n (xs ++ marked 1 xss) held in
    let at : IsRing next prev 0 (f.before ++ n ∷ f.behind) = subst (λ r. IsRing next prev 0 r) f.is ring in
    let s : IsSplit f.before n f.behind = split f.before n f.behind at.distinct.1 in
    let zero_stays : (0 == n) ≡ false = ne_eqb 0 n (omega arith) in
    let all : without_node n (0 ∷ (xs ++ marked 1 xss)) ≡ marked 0 (map (without_node n) (xs ∷ xss)) =
    without-marked n 0 (xs ∷ xss) (omega arith) in
    let same : 0 ∷ (f.before ++ f.behind) ≡ marked 0 (map (without_node n) (xs ∷ xss))
    = ap (λ t. 0 ∷ t) (sym (without-found n f.before f.behind s.before s.behind) ∙ ap (λ r. without_node n r) (sym f.is))
    ∙ sym (rw zero_stays refl) ∙ all in
    subst (λ r. IsLoop (cut_next next prev n) (cut_prev next prev n) r) same (ring_cut next prev 0 n f.before f.behind at)

-- walks give the lists back

pub are_linked : (next prev : List ℕ) (m b : ℕ) (xs : List ℕ) (xss : List (List ℕ))
    → Linked next prev m (xs ++ marked (suc m) xss) b → AreLinked next prev m (xs ∷ xss) b
are_linked next prev m b xs [] h = subst (λ t. Linked next prev m t b) (append_nil xs) h
are_linked next prev m b xs (ys ∷ yss) h =
    let both = linked_split next prev m b (suc m) xs (ys ++ marked (suc (suc m)) yss) h in
    (both.0, are_linked next prev (suc m) b ys yss both.1)

pub each_distinct : (m : ℕ) (lists : List (List ℕ)) → AreDistinct (marked m lists) → EachDistinct lists
each_distinct m [] h = tt
each_distinct m (xs ∷ xss) h = (front xs (marked (suc m) xss) h.1, each_distinct (suc m) xss (back xs (marked (suc m) xss) h.1))
  where
    front : (us vs : List ℕ) → AreDistinct (us ++ vs) → AreDistinct us
    front [] vs d = tt
    front (u ∷ us) vs d = ((away_append u us vs d.0).0, front us vs d.1)

    back : (us vs : List ℕ) → AreDistinct (us ++ vs) → AreDistinct vs
    back [] vs d = d
    back (u ∷ us) vs d = back us vs d.1

-- the last of a list stands before the mark that ends it
pub record Last (prev : List ℕ) (b : ℕ) (xs : List ℕ) : Type 0 where
  pub others : List ℕ
  pub is : xs ≡ others ++ slice_index prev b ∷ []

pub linked_last : (next prev : List ℕ) (a b : ℕ) (xs : List ℕ) → 0 < length xs → Linked next prev a xs b → Last prev b xs
linked_last next prev a b [] l h = absurd (omega arith)
linked_last next prev a b (x ∷ []) l h = record { others = []; is = ap (λ z. z ∷ []) (sym h.2.1) }
linked_last next prev a b (x ∷ y ∷ ys) l h =
    let s : Last prev b (y ∷ ys) = linked_last next prev x b (y ∷ ys) (omega arith) h.2 in
    record { others = x ∷ s.others; is = ap (λ t. x ∷ t) s.is }

-- a list from its last to its first

-- the node n steps back from b
abbrev reached : ℕ → List ℕ → ℕ → ℕ
reached zero prev b = b
reached (suc n) prev b = slice_index prev (reached n prev b)

reached_first : (n : ℕ) (prev : List ℕ) (b : ℕ) → reached n prev (slice_index prev b) ≡ slice_index prev (reached n prev b)
reached_first zero prev b = refl
reached_first (suc n) prev b = ap (λ x. slice_index prev x) (reached_first n prev b)

walk_push : (n : ℕ) (prev : List ℕ) (b : ℕ) → walk (suc n) prev b ≡ walk n prev b ++ slice_index prev (reached n prev b) ∷ []
walk_push zero prev b = refl
walk_push (suc n) prev b =
    ap (λ t. slice_index prev b ∷ t)
    (walk_push n prev (slice_index prev b)
    ∙ ap (λ x. walk n prev (slice_index prev b) ++ slice_index prev x ∷ []) (reached_first n prev b))

before_first : (next prev : List ℕ) (a b : ℕ) (xs : List ℕ) → Linked next prev a xs b
    → slice_index prev (reached (length xs) prev b) ≡ a
before_first next prev a b [] h = h.1
before_first next prev a b (x ∷ xs) h = ap (λ y. slice_index prev y) (before_first next prev x b xs h.2) ∙ h.1

pub walk_back : (next prev : List ℕ) (a b : ℕ) (xs : List ℕ) → Linked next prev a xs b → walk (length xs) prev b ≡ reverse xs
walk_back next prev a b [] h = refl
walk_back next prev a b (x ∷ xs) h =
    walk_push (length xs) prev b
    ∙ ap (λ t. t ++ slice_index prev (reached (length xs) prev b) ∷ []) (walk_back next prev x b xs h.2)
    ∙ ap (λ y. reverse xs ++ y ∷ []) (before_first next prev x b xs h.2) ∙ sym (reverse-append (x ∷ []) xs)

-- a node's neighbours have places too

next_below : (next prev : List ℕ) (m a b : ℕ) (xs : List ℕ) → AreBelow m xs → b < m → Linked next prev a xs b
    → slice_index next a < m
next_below next prev m a b [] h l k = omega (arith, k.0)
next_below next prev m a b (x ∷ xs) h l k = omega (arith, k.0, h.0)

prev_below : (next prev : List ℕ) (m a b : ℕ) (xs : List ℕ) → a < m → AreBelow m xs → Linked next prev a xs b
    → slice_index prev b < m
prev_below next prev m a b [] l h k = omega (arith, k.1)
prev_below next prev m a b (x ∷ xs) l h k = prev_below next prev m x b xs h.0 h.1 k.2

has_place : (next prev us : List ℕ) (n : ℕ) (vs : List ℕ) → IsLoop next prev (us ++ n ∷ vs) → HasPlace next prev n
has_place next prev [] n vs ring = record {
  own = ring.below.0;
  behind = next_below next prev (length next) n n vs ring.below.1 ring.below.0 ring.linked;
  before = prev_below next prev (length next) n n vs ring.below.0 ring.below.1 ring.linked;
}
has_place next prev (u ∷ us) n vs ring =
    let both = linked_split next prev u u n us vs ring.linked in
    let below = below_append (length next) us (n ∷ vs) ring.below.1 in
    record {
      own = below.1.0;
      behind = next_below next prev (length next) n u vs below.1.1 ring.below.0 both.1;
      before = prev_below next prev (length next) u n us ring.below.0 below.0 both.0;
    }

pub mark_place : (next prev : List ℕ) (i : ℕ) (lists : List (List ℕ)) → i < length lists → AreChained next prev lists
    → HasPlace next prev i
mark_place next prev i lists inside ring =
    let s : MarkAt 0 i 0 lists = mark_at 0 i 0 lists inside in
    let own : s.mark ≡ i = omega (arith, s.is_mark) in
    subst (λ j. HasPlace next prev j) own
    (has_place next prev s.before s.mark s.behind (subst (λ r. IsLoop next prev r) s.is ring))

pub node_place : (next prev : List ℕ) (n : ℕ) (xs : List ℕ) (xss : List (List ℕ)) → is_among n (xs ++ marked 1 xss) ≡ true
    → AreChained next prev (xs ∷ xss) → HasPlace next prev n
node_place next prev n xs xss held ring =
    let f : Found n (xs ++ marked 1 xss) = find n (xs ++ marked 1 xss) held in
    has_place next prev (0 ∷ f.before) n f.behind (subst (λ r. IsLoop next prev (0 ∷ r)) f.is ring)

-- more places change no ring

pub index-grown : (xs zs : List ℕ) (i : ℕ) → i < length xs → slice_index (xs ++ zs) i ≡ slice_index xs i
index-grown [] zs i h = absurd (omega arith)
index-grown (x ∷ xs) zs zero h = refl
index-grown (x ∷ xs) zs (suc i) h = index-grown xs zs i (omega arith)

linked-grown : (next prev ys zs : List ℕ) (a b : ℕ) (xs : List ℕ) → a < length next → b < length prev → AreBelow (length next) xs
    → length prev ≡ length next → Linked next prev a xs b → Linked (next ++ ys) (prev ++ zs) a xs b
linked-grown next prev ys zs a b [] l m h e k = (index-grown next ys a l ∙ k.0, index-grown prev zs b m ∙ k.1)
linked-grown next prev ys zs a b (x ∷ xs) l m h e k = (
  index-grown next ys a l ∙ k.0,
  index-grown prev zs x (omega (arith, h.0)) ∙ k.1,
  linked-grown next prev ys zs x b xs h.0 m h.1 e k.2,
)

below_more : (m n : ℕ) (xs : List ℕ) → m ≤ n → AreBelow m xs → AreBelow n xs
below_more m n [] l h = tt
below_more m n (x ∷ xs) l h = (omega (arith, h.0), below_more m n xs l h.1)

pub ring_grown : (next prev ys zs : List ℕ) (x : ℕ) (xs : List ℕ) → length ys ≡ length zs → IsRing next prev x xs
    → IsRing (next ++ ys) (prev ++ zs) x xs
ring_grown next prev ys zs x xs e ring = record {
  linked =
      linked-grown next prev ys zs x x xs ring.below.0 (omega (arith, ring.below.0, ring.long)) ring.below.1 ring.long
      ring.linked;
  distinct = ring.distinct;
  below = below_more (length next) (length (next ++ ys)) (x ∷ xs) (omega (arith, length-append next ys)) ring.below;
  long = omega (arith, ring.long, length-append next ys, length-append prev zs);
}
