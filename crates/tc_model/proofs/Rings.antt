-- What a ring becomes where a node is taken out or put in.
use Rattle.std.specs.Prelude.{slice_index, slice_set}
use Rattle.std.proofs.Common.{◌≡◌, ◌≢◌, ℕ, zero, suc, ◌<◌, List, [], ◌∷◌, ◌++◌, length, refl, sym, ◌∙◌, ap, subst, arith}
use Rattle.tc_model.specs.Ring.{Linked, IsAway, AreDistinct, AreBelow, IsRing, walk}

pub index_same : (xs : List ℕ) (i x : ℕ) → i < length xs → slice_index (slice_set xs i x) i ≡ x
index_same [] i x h = absurd (omega arith)
index_same (y ∷ ys) zero x h = refl
index_same (y ∷ ys) (suc i) x h = index_same ys i x (omega arith)

pub index_other : (xs : List ℕ) (i j x : ℕ) → i ≢ j → slice_index (slice_set xs i x) j ≡ slice_index xs j
index_other [] i j x ne = refl
index_other (y ∷ ys) zero zero x ne = absurd (ne refl)
index_other (y ∷ ys) zero (suc j) x ne = refl
index_other (y ∷ ys) (suc i) zero x ne = refl
index_other (y ∷ ys) (suc i) (suc j) x ne = index_other ys i j x (λ e. ne (ap suc e))

pub length-slice_set : (xs : List ℕ) (i x : ℕ) → length (slice_set xs i x) ≡ length xs
length-slice_set [] i x = refl
length-slice_set (y ∷ ys) zero x = refl
length-slice_set (y ∷ ys) (suc i) x = ap suc (length-slice_set ys i x)

pub linked_walk : (next prev : List ℕ) (a b : ℕ) (xs : List ℕ) → Linked next prev a xs b → walk (length xs) next a ≡ xs
linked_walk next prev a b [] h = refl
linked_walk next prev a b (x ∷ xs) h = rw h.0 (ap (λ t. x ∷ t) (linked_walk next prev x b xs h.2))

pub linked_split : (next prev : List ℕ) (a b x : ℕ) (us vs : List ℕ) → Linked next prev a (us ++ x ∷ vs) b
    → Linked next prev a us x × Linked next prev x vs b
linked_split next prev a b x [] vs h = ((h.0, h.1), h.2)
linked_split next prev a b x (u ∷ us) vs h = let rest = linked_split next prev u b x us vs h.2 in ((h.0, h.1, rest.0), rest.1)

pub linked_join : (next prev : List ℕ) (a b x : ℕ) (us vs : List ℕ) → Linked next prev a us x → Linked next prev x vs b
    → Linked next prev a (us ++ x ∷ vs) b
linked_join next prev a b x [] vs h k = (h.0, h.1, k)
linked_join next prev a b x (u ∷ us) vs h k = (h.0, h.1, linked_join next prev u b x us vs h.2 k)

-- a write elsewhere changes no link

pub linked-set_next : (next prev : List ℕ) (i v a b : ℕ) (xs : List ℕ) → i ≢ a → IsAway i xs → Linked next prev a xs b
    → Linked (slice_set next i v) prev a xs b
linked-set_next next prev i v a b [] ne away h = (index_other next i a v ne ∙ h.0, h.1)
linked-set_next next prev i v a b (x ∷ xs) ne away h =
    (index_other next i a v ne ∙ h.0, h.1, linked-set_next next prev i v x b xs away.0 away.1 h.2)

pub linked-set_prev : (next prev : List ℕ) (i v a b : ℕ) (xs : List ℕ) → i ≢ b → IsAway i xs → Linked next prev a xs b
    → Linked next (slice_set prev i v) a xs b
linked-set_prev next prev i v a b [] ne away h = (h.0, index_other prev i b v ne ∙ h.1)
linked-set_prev next prev i v a b (x ∷ xs) ne away h =
    (h.0, index_other prev i x v away.0 ∙ h.1, linked-set_prev next prev i v x b xs ne away.1 h.2)

-- membership

pub away_append : (x : ℕ) (us vs : List ℕ) → IsAway x (us ++ vs) → IsAway x us × IsAway x vs
away_append x [] vs h = (tt, h)
away_append x (u ∷ us) vs h = let rest = away_append x us vs h.1 in ((h.0, rest.0), rest.1)

pub away_both : (x : ℕ) (us vs : List ℕ) → IsAway x us → IsAway x vs → IsAway x (us ++ vs)
away_both x [] vs h k = k
away_both x (u ∷ us) vs h k = (h.0, away_both x us vs h.1 k)

-- a list of distinct numbers, split at one of them
pub record IsSplit (us : List ℕ) (x : ℕ) (vs : List ℕ) : Type 0 where
  pub before : IsAway x us
  pub behind : IsAway x vs
  pub left : AreDistinct us
  pub right : AreDistinct vs
  pub rest : AreDistinct (us ++ vs)

pub split : (us : List ℕ) (x : ℕ) (vs : List ℕ) → AreDistinct (us ++ x ∷ vs) → IsSplit us x vs
split [] x vs h = record { before = tt; behind = h.0; left = tt; right = h.1; rest = h.1 }
split (u ∷ us) x vs h =
    let s : IsSplit us x vs = split us x vs h.1 in
    let away = away_append u us (x ∷ vs) h.0 in
    record {
      before = ((λ e. away.1.0 (sym e)), s.before);
      behind = s.behind;
      left = (away.0, s.left);
      right = s.right;
      rest = (away_both u us vs away.0 away.1.1, s.rest);
    }

pub below_append : (n : ℕ) (us vs : List ℕ) → AreBelow n (us ++ vs) → AreBelow n us × AreBelow n vs
below_append n [] vs h = (tt, h)
below_append n (u ∷ us) vs h = let rest = below_append n us vs h.1 in ((h.0, rest.0), rest.1)

pub below_both : (n : ℕ) (us vs : List ℕ) → AreBelow n us → AreBelow n vs → AreBelow n (us ++ vs)
below_both n [] vs h k = k
below_both n (u ∷ us) vs h k = (h.0, below_both n us vs h.1 k)

-- the last before x is a or one of us, so what is away from all of these is not it
pub prev_away : (next prev : List ℕ) (a x z : ℕ) (us : List ℕ) → z ≢ a → IsAway z us → Linked next prev a us x
    → z ≢ slice_index prev x
prev_away next prev a x z [] ne away h = λ e. ne (e ∙ h.1)
prev_away next prev a x z (u ∷ us) ne away h = prev_away next prev u x z us away.0 away.1 h.2

prev_away_list : (next prev : List ℕ) (a x : ℕ) (us zs : List ℕ) → AreDistinct (a ∷ (us ++ x ∷ zs)) → Linked next prev a us x
    → IsAway (slice_index prev x) zs
prev_away_list next prev a x [] zs d h = subst (λ p. IsAway p zs) (sym h.1) d.0.1
prev_away_list next prev a x (u ∷ us) zs d h = prev_away_list next prev u x us zs d.1 h.2

-- the last before x is linked to y in place of x
relink : (next prev : List ℕ) (a x y : ℕ) (us : List ℕ) → AreDistinct (a ∷ us) → IsAway y us → AreBelow (length next) (a ∷ us)
    → y < length prev → Linked next prev a us x
    → Linked (slice_set next (slice_index prev x) y) (slice_set prev y (slice_index prev x)) a us y
relink next prev a x y [] d away below yl h = rw h.1 (index_same next a y below.0, index_same prev y a yl)
relink next prev a x y (u ∷ us) d away below yl h =
    let ne : a ≢ slice_index prev x = prev_away next prev u x a us d.0.0 d.0.1 h.2 in (
      index_other next (slice_index prev x) a y (λ e. ne (sym e)) ∙ h.0,
      index_other prev y u (slice_index prev x) away.0 ∙ h.1,
      relink next prev u x y us d.1 away.1 below.1 yl h.2,
    )

-- a node is taken out
pub linked_cut : (next prev : List ℕ) (a x : ℕ) (us vs : List ℕ) → IsRing next prev a (us ++ x ∷ vs)
    → Linked (slice_set next (slice_index prev x) (slice_index next x))
    (slice_set prev (slice_index next x) (slice_index prev x)) a (us ++ vs) a
linked_cut next prev a x us [] ring =
    let both = linked_split next prev a a x us [] ring.linked in
    let away = away_append a us (x ∷ []) ring.distinct.0 in
    let s : IsSplit us x [] = split us x [] ring.distinct.1 in
    let below = below_append (length next) us (x ∷ []) ring.below.1 in
    let al : a < length prev = omega (arith, ring.long, ring.below.0) in
    let done : Linked (slice_set next (slice_index prev x) a) (slice_set prev a (slice_index prev x)) a us a =
    relink next prev a x a us (away.0, s.left) away.0 (ring.below.0, below.0) al both.0 in
    rw (both.1.0, append_end us) done
  where
    append_end : (y : List ℕ) → y ++ [] ≡ y
    append_end [] = refl
    append_end (b ∷ y) = ap (λ t. b ∷ t) (append_end y)
linked_cut next prev a x us (y ∷ ys) ring =
    let both = linked_split next prev a a x us (y ∷ ys) ring.linked in
    let away = away_append a us (x ∷ y ∷ ys) ring.distinct.0 in
    let s : IsSplit us x (y ∷ ys) = split us x (y ∷ ys) ring.distinct.1 in
    let s2 : IsSplit us y ys = split us y ys s.rest in
    let below = below_append (length next) us (x ∷ y ∷ ys) ring.below.1 in
    let yl : y < length prev = omega (arith, ring.long, below.1.1.0) in
    let l : ℕ = slice_index prev x in
    let front : Linked (slice_set next l y) (slice_set prev y l) a us y =
    relink next prev a x y us (away.0, s.left) s2.before (ring.below.0, below.0) yl both.0 in
    let far : IsAway l (y ∷ ys) = prev_away_list next prev a x us (y ∷ ys) ring.distinct both.0 in
    let ya : y ≢ a = λ e. away.1.1.0 (sym e) in
    let back : Linked (slice_set next l y) (slice_set prev y l) y ys a =
    linked-set_prev (slice_set next l y) prev y l y a ys ya s2.behind
    (linked-set_next next prev l y y a ys far.0 far.1 both.1.2) in
    rw both.1.0 (linked_join (slice_set next l y) (slice_set prev y l) a a y us ys front back)

pub ring_cut : (next prev : List ℕ) (a x : ℕ) (us vs : List ℕ) → IsRing next prev a (us ++ x ∷ vs)
    → IsRing (slice_set next (slice_index prev x) (slice_index next x))
    (slice_set prev (slice_index next x) (slice_index prev x)) a (us ++ vs)
ring_cut next prev a x us vs ring =
    let away = away_append a us (x ∷ vs) ring.distinct.0 in
    let below = below_append (length next) us (x ∷ vs) ring.below.1 in
    record {
      linked = linked_cut next prev a x us vs ring;
      distinct = (away_both a us vs away.0 away.1.1, (split us x vs ring.distinct.1).rest);
      below =
          subst (λ n. AreBelow n (a ∷ (us ++ vs))) (sym (length-slice_set next (slice_index prev x) (slice_index next x)))
          (ring.below.0, below_both (length next) us vs below.0 below.1.1);
      long =
          rw (
            length-slice_set next (slice_index prev x) (slice_index next x),
            length-slice_set prev (slice_index next x) (slice_index prev x),
          ) ring.long;
    }

-- a node is put in behind another

record Fresh (next prev : List ℕ) (before at b : ℕ) (vs : List ℕ) : Type 0 where
  apart : at ≢ before
  new : IsAway at vs
  stop : at ≢ b
  end : IsAway b vs
  away : IsAway before vs
  distinct : AreDistinct vs
  at_next : at < length next
  at_prev : at < length prev
  before_next : before < length next
  below : AreBelow (length prev) vs
  end_below : b < length prev

linked_put_here : (next prev : List ℕ) (before at b : ℕ) (vs : List ℕ) → Fresh next prev before at b vs
    → Linked next prev before vs b
    → Linked (slice_set (slice_set next before at) at (slice_index next before))
    (slice_set (slice_set prev at before) (slice_index next before) at) before (at ∷ vs) b
linked_put_here next prev before at b [] f h = rw h.0 (
  index_other (slice_set next before at) at before b f.apart ∙ index_same next before at f.before_next,
  index_other (slice_set prev at before) b at at (λ e. f.stop (sym e)) ∙ index_same prev at before f.at_prev,
  (
    index_same (slice_set next before at) at b (omega (arith, f.at_next, length-slice_set next before at)),
    index_same (slice_set prev at before) b at (omega (arith, f.end_below, length-slice_set prev at before)),
  ),
)
linked_put_here next prev before at b (y ∷ ys) f h =
    subst
    (λ z. Linked (slice_set (slice_set next before at) at z) (slice_set (slice_set prev at before) z at) before (at ∷ y ∷ ys) b)
    (sym h.0) (
      index_other (slice_set next before at) at before y f.apart ∙ index_same next before at f.before_next,
      index_other (slice_set prev at before) y at at (λ e. f.new.0 (sym e)) ∙ index_same prev at before f.at_prev,
      (
        index_same (slice_set next before at) at y (omega (arith, f.at_next, length-slice_set next before at)),
        index_same (slice_set prev at before) y at (omega (arith, f.below.0, length-slice_set prev at before)),
        linked-set_prev (slice_set (slice_set next before at) at y) (slice_set prev at before) y at y b ys
            (λ e. f.end.0 (sym e)) f.distinct.0
            (linked-set_prev (slice_set (slice_set next before at) at y) prev at before y b ys f.stop f.new.1
            (linked-set_next (slice_set next before at) prev at y y b ys f.new.0 f.new.1
            (linked-set_next next prev before at y b ys f.away.0 f.away.1 h.2))),
      ),
    )

-- the one behind x is away from what all of vs and b are away from
next_ne : (next prev : List ℕ) (x z b : ℕ) (vs : List ℕ) → z ≢ b → IsAway z vs → Linked next prev x vs b → slice_index next x ≢ z
next_ne next prev x z b [] ne away h = λ e. ne (sym e ∙ h.0)
next_ne next prev x z b (v ∷ vs) ne away h = λ e. away.0 (sym e ∙ h.0)

next_away : (next prev : List ℕ) (x b : ℕ) (us vs : List ℕ) → IsAway b us → AreDistinct (us ++ x ∷ vs) → Linked next prev x vs b
    → IsAway (slice_index next x) us
next_away next prev x b [] vs ab d h = tt
next_away next prev x b (u ∷ us) vs ab d h =
    let away = away_append u us (x ∷ vs) d.0 in
    (next_ne next prev x u b vs (λ e. ab.0 (sym e)) away.1.1 h, next_away next prev x b us vs ab.1 d.1 h)

-- room for one that is in no ring
pub record IsFree (next : List ℕ) (at a : ℕ) (xs : List ℕ) : Type 0 where
  pub first : at ≢ a
  pub others : IsAway at xs
  pub within : at < length next

long_below : (m n : ℕ) (xs : List ℕ) → m ≡ n → AreBelow n xs → AreBelow m xs
long_below m n xs e h = subst (λ k. AreBelow k xs) (sym e) h

pub ring_put_first : (next prev : List ℕ) (a at : ℕ) (xs : List ℕ) → IsRing next prev a xs → IsFree next at a xs
    → IsRing (slice_set (slice_set next a at) at (slice_index next a)) (slice_set (slice_set prev at a) (slice_index next a) at) a
    (at ∷ xs)
ring_put_first next prev a at xs ring free = record {
  linked = linked_put_here next prev a at a xs (record {
    apart = free.first;
    new = free.others;
    stop = free.first;
    end = ring.distinct.0;
    away = ring.distinct.0;
    distinct = ring.distinct.1;
    at_next = free.within;
    at_prev = omega (arith, free.within, ring.long);
    before_next = ring.below.0;
    below = long_below (length prev) (length next) xs ring.long ring.below.1;
    end_below = omega (arith, ring.below.0, ring.long);
  }) ring.linked;
  distinct = (((λ e. free.first (sym e)), ring.distinct.0), (free.others, ring.distinct.1));
  below =
      subst (λ n. AreBelow n (a ∷ at ∷ xs))
      (sym (length-slice_set (slice_set next a at) at (slice_index next a) ∙ length-slice_set next a at))
      (ring.below.0, (free.within, ring.below.1));
  long =
      omega (
        arith,
        ring.long,
        length-slice_set (slice_set next a at) at (slice_index next a),
        length-slice_set next a at,
        length-slice_set (slice_set prev at a) (slice_index next a) at,
        length-slice_set prev at a,
      );
}

distinct_put : (us : List ℕ) (x at : ℕ) (vs : List ℕ) → IsAway at (us ++ x ∷ vs) → AreDistinct (us ++ x ∷ vs)
    → AreDistinct (us ++ x ∷ at ∷ vs)
distinct_put [] x at vs away d = (((λ e. away.0 (sym e)), d.0), (away.1, d.1))
distinct_put (u ∷ us) x at vs away d =
    let both = away_append u us (x ∷ vs) d.0 in
    (away_both u us (x ∷ at ∷ vs) both.0 (both.1.0, ((λ e. away.0 (sym e)), both.1.1)), distinct_put us x at vs away.1 d.1)

pub ring_put : (next prev : List ℕ) (a before at : ℕ) (us vs : List ℕ) → IsRing next prev a (us ++ before ∷ vs)
    → IsFree next at a (us ++ before ∷ vs)
    → IsRing (slice_set (slice_set next before at) at (slice_index next before))
    (slice_set (slice_set prev at before) (slice_index next before) at) a (us ++ before ∷ at ∷ vs)
ring_put next prev a before at us vs ring free =
    let both = linked_split next prev a a before us vs ring.linked in
    let s : IsSplit us before vs = split us before vs ring.distinct.1 in
    let away = away_append a us (before ∷ vs) ring.distinct.0 in
    let fresh = away_append at us (before ∷ vs) free.others in
    let below = below_append (length next) us (before ∷ vs) ring.below.1 in
    let after : ℕ = slice_index next before in
    let n1 : List ℕ = slice_set next before at in
    let n2 : List ℕ = slice_set n1 at after in
    let p1 : List ℕ = slice_set prev at before in
    let p2 : List ℕ = slice_set p1 after at in
    let back : Linked n2 p2 before (at ∷ vs) a = linked_put_here next prev before at a vs (record {
      apart = fresh.1.0;
      new = fresh.1.1;
      stop = free.first;
      end = away.1.1;
      away = s.behind;
      distinct = s.right;
      at_next = free.within;
      at_prev = omega (arith, free.within, ring.long);
      before_next = below.1.0;
      below = long_below (length prev) (length next) vs ring.long below.1.1;
      end_below = omega (arith, ring.below.0, ring.long);
    }) both.1 in
    let ba : before ≢ a = λ e. away.1.0 (sym e) in
    let after_us : IsAway after us = next_away next prev before a us vs away.0 ring.distinct.1 both.1 in
    let after_before : after ≢ before = next_ne next prev before before a vs ba s.behind both.1 in
    let front : Linked n2 p2 a us before =
    linked-set_prev n2 p1 after at a before us after_before after_us
    (linked-set_prev n2 prev at before a before us fresh.1.0 fresh.0
    (linked-set_next n1 prev at after a before us free.first fresh.0
    (linked-set_next next prev before at a before us ba s.before both.0))) in
    record {
      linked = linked_join n2 p2 a a before us (at ∷ vs) front back;
      distinct = (
        away_both a us (before ∷ at ∷ vs) away.0 (away.1.0, ((λ e. free.first (sym e)), away.1.1)),
        distinct_put us before at vs free.others ring.distinct.1,
      );
      below =
          subst (λ n. AreBelow n (a ∷ (us ++ before ∷ at ∷ vs)))
          (sym (length-slice_set n1 at after ∙ length-slice_set next before at))
          (ring.below.0, below_both (length next) us (before ∷ at ∷ vs) below.0 (below.1.0, (free.within, below.1.1)));
      long =
          omega (
            arith,
            ring.long,
            length-slice_set n1 at after,
            length-slice_set next before at,
            length-slice_set p1 after at,
            length-slice_set prev at before,
          );
    }
