-- Shards in which nothing stands.
use Rattle.std.specs.Prelude.{slice_set, nat_lt}
use Rattle.std.proofs.Common.{◌≡◌, ◌==◌, ℕ, zero, suc, ◌+◌, ◌<◌, ◌≤◌, Bool, true, false, cond, List, [], ◌∷◌, ◌++◌, length, refl, sym, ◌∙◌, ap, subst, arith}
use Rattle.std.proofs.lemmas.Bool.{eqb-true, eqb-false, ltb-true, ltb-false}
use Rattle.std.proofs.lemmas.List.{get_or-set_same, get_or-set_other}
use Rattle.tc_index.specs.Tags.{TaggedShard, shard_at, no_shard, stands_in}

-- nothing stands in a shard
pub record IsEmpty (p : TaggedShard) : Type 0 where
  pub first : p.first ≡ []
  pub more : p.more ≡ []

-- and it has room
pub record IsFresh (p : TaggedShard) : Type 0 where
  pub empty : IsEmpty p
  pub room : p.has_room ≡ true

pub none_stands : (p : TaggedShard) → IsEmpty p → (tag slot : ℕ) → stands_in p tag slot ≡ 0
none_stands p e tag slot = simp (e.first, e.more)

-- past the end there is a shard in which nothing stands
pub shard_past : (shards : List TaggedShard) (n : ℕ) → length shards ≤ n → shard_at shards n ≡ no_shard
shard_past [] n le = refl
shard_past (p ∷ ps) zero le = absurd (omega (arith, le))
shard_past (p ∷ ps) (suc n) le = shard_past ps n (omega (arith, le))

-- nothing stands where nothing stands in any shard
pub none_stand : (shards : List TaggedShard) → ((n : ℕ) → n < length shards → IsEmpty (shard_at shards n)) → (n tag slot : ℕ)
    → stands_in (shard_at shards n) tag slot ≡ 0
none_stand shards h n tag slot = go (nat_lt n (length shards)) refl
  where
    go : (b : Bool) → nat_lt n (length shards) ≡ b → stands_in (shard_at shards n) tag slot ≡ 0
    go true e = none_stands (shard_at shards n) (h n (ltb-true n (length shards) e)) tag slot
    go false e = ap (λ p. stands_in p tag slot) (shard_past shards n (ltb-false n (length shards) e))

-- a shard is another
shard_set : (shards : List TaggedShard) (i n : ℕ) (p : TaggedShard) → i < length shards → (b : Bool) → (n == i) ≡ b
    → shard_at (slice_set shards i p) n ≡ cond b p (shard_at shards n)
shard_set shards i n p lt true e =
    ap (shard_at (slice_set shards i p)) (eqb-true n i e) ∙ get_or-set_same shards i p no_shard lt
shard_set shards i n p lt false e = get_or-set_other shards i n p no_shard (eqb-false n i e)

pub empty_on : (shards : List TaggedShard) (i : ℕ) (p : TaggedShard) → i < length shards → IsEmpty p
    → ((n : ℕ) → n < i → IsEmpty (shard_at shards n)) → (n : ℕ) → n < i + 1 → IsEmpty (shard_at (slice_set shards i p) n)
empty_on shards i p lt e h n less = go (n == i) refl
  where
    go : (b : Bool) → (n == i) ≡ b → IsEmpty (shard_at (slice_set shards i p) n)
    go true t = subst IsEmpty (sym (shard_set shards i n p lt true t)) e
    go false t =
        subst IsEmpty (sym (shard_set shards i n p lt false t)) (h n (omega (arith, less, eqb-false n i t)))

pub room_on : (shards : List TaggedShard) (i : ℕ) (p : TaggedShard) → i < length shards
    → ((shard_at shards i).has_room ≡ true → p.has_room ≡ true) → (n : ℕ) → (shard_at shards n).has_room ≡ true
    → (shard_at (slice_set shards i p) n).has_room ≡ true
room_on shards i p lt keep n r = go (n == i) refl
  where
    go : (b : Bool) → (n == i) ≡ b → (shard_at (slice_set shards i p) n).has_room ≡ true
    go true t =
        ap (λ q. q.has_room) (shard_set shards i n p lt true t)
        ∙ keep (ap (λ k. (shard_at shards k).has_room) (sym (eqb-true n i t)) ∙ r)
    go false t = ap (λ q. q.has_room) (shard_set shards i n p lt false t) ∙ r

-- a shard more
pub fresh_more : (shards : List TaggedShard) (p : TaggedShard) → ((n : ℕ) → n < length shards → IsFresh (shard_at shards n)) → IsFresh p
    → (n : ℕ) → n < length shards + 1 → IsFresh (shard_at (shards ++ p ∷ []) n)
fresh_more [] p h f zero lt = f
fresh_more [] p h f (suc n) lt = absurd (omega (arith, lt))
fresh_more (q ∷ qs) p h f zero lt = h zero (omega arith)
fresh_more (q ∷ qs) p h f (suc n) lt =
    fresh_more qs p (λ m l. h (suc m) (omega (arith, l))) f n (omega (arith, lt))
