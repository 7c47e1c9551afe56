-- What waits is done to a copy, one record after another.
use Rattle.std.specs.Prelude.{max, map, slice_get}
use Rattle.std.proofs.Common.{◌≡◌, ℕ, zero, suc, ◌+◌, ◌≤◌, ◌<◌, ◌^◌, List, [], ◌∷◌, length, take, Option, Some, refl, sym, ◌∙◌}
use Rattle.std.proofs.Common.{ap, subst, arith}
use Rattle.std.proofs.lemmas.List.{take_all}
use Rattle.tc_model.specs.Areas.{Limits, total}
use Rattle.tc_readbuf.specs.declared.look_up.LookUp.{LookUp}
use Rattle.tc_plain.specs.declared.shared.entry.Entry.{Entry}
use Rattle.tc_plain.specs.Entries.{weight}
use Rattle.tc_plain.specs.EvictionState.{EvictionState, advanced}
use Rattle.tc_plain.specs.UserCache.{UserCache}
use Rattle.tc_plain.specs.Doing.{with_live}
use Rattle.tc_plain.specs.Soundness.{AreSound, IsSound}
use Rattle.tc_plain.proofs.Advances.{limits-at_moment}
use Rattle.tc_plain.proofs.Stays.{sound_with}
use Rattle.tc_plain.proofs.Widths.{width-at_moment}
use Rattle.tc_partition.specs.Deferred.{Waiting, Lazy, IsLazy, replay_one, replay, settled, AreInOrder}
use Rattle.tc_partition.specs.WaitingSlots.{waiting_of, lazy_over}
use Rattle.tc_partition.proofs.Deferral.{replayed, ends_at, settled_at, at_same}
use Rattle.tc_partition.proofs.Draining.{sound_come, sound_light, note_limits, note_width}
use Rattle.tc_slots.proofs.Tally.{length_map}

-- what comes to a moment stays light
come_light : (l : EvictionState) (m : ℕ) → AreSound l.limits l.areas → l.limits.window + l.limits.main < 2 ^ 32
    → total weight (advanced l m).areas < 2 ^ 32
come_light l m h small =
    let same : (advanced l m).limits ≡ l.limits = limits-at_moment (max l.moment m) l in
    sound_light (advanced l m).limits (advanced l m).areas (sound_come l m h)
    (omega (arith, small, ap (λ (k : Limits). k.window) same, ap (λ (k : Limits). k.main) same))

pub light_come : (l j : EvictionState) (m : ℕ) → j ≡ advanced l m → AreSound l.limits l.areas
    → l.limits.window + l.limits.main < 2 ^ 32 → total weight j.areas < 2 ^ 32
light_come l j m e h small = subst (λ (z : EvictionState). total weight z.areas < 2 ^ 32) (sym e) (come_light l m h small)

-- the limits never change
pub replay_limits : (l : EvictionState) (rs : List Waiting) → (replay l rs).limits ≡ l.limits
replay_limits l [] = refl
replay_limits l (r ∷ rs) =
    replay_limits (replay_one l r) rs ∙ note_limits r.note (advanced l r.moment) ∙ limits-at_moment (max l.moment r.moment) l

-- and neither does the sketch's width
pub replay_width : (l : EvictionState) (rs : List Waiting) → (replay l rs).sketch.width ≡ l.sketch.width
replay_width l [] = refl
replay_width l (r ∷ rs) =
    replay_width (replay_one l r) rs ∙ note_width r.note (advanced l r.moment) ∙ width-at_moment (max l.moment r.moment) l

pub order_take : (n low high : ℕ) (rs : List Waiting) → AreInOrder low rs high → AreInOrder low (take n rs) high
order_take zero low high [] h = h
order_take (suc n) low high [] h = h
order_take zero low high (r ∷ rs) h = ends_at low high (r ∷ rs) h
order_take (suc n) low high (r ∷ rs) h = (h.0, order_take n r.moment high rs h.1)

-- one more record
pub replay_more : (f : LookUp × ℕ → Waiting) (l j : EvictionState) (rs : List (LookUp × ℕ)) (i : ℕ) → i < length rs
    → ((r : LookUp × ℕ) → slice_get rs i ≡ Some r → j ≡ replay_one (replay l (take i (map f rs))) (f r))
    → j ≡ replay l (take (suc i) (map f rs))
replay_more f l j [] i lt h = absurd (omega (arith, lt))
replay_more f l j (r ∷ rs) zero lt h = h r refl
replay_more f l j (r ∷ rs) (suc i) lt h = replay_more f (replay_one l (f r)) j rs i (omega (arith, lt)) h

-- what the first records leave is sound and light
pub record IsPart (f : Lazy) (n : ℕ) : Type 0 where
  pub sound : AreSound (replay f.base (take n f.waiting)).limits (replay f.base (take n f.waiting)).areas
  pub limits : (replay f.base (take n f.waiting)).limits ≡ f.base.limits

pub part_done : (f : Lazy) (n : ℕ) → IsLazy f → IsPart f n
part_done f n h = record {
  sound = (replayed f.base (take n f.waiting) f.moment h.sound (order_take n f.base.moment f.moment f.waiting h.order)).sound;
  limits = replay_limits f.base (take n f.waiting);
}

pub light_by : (a b : Limits) → a ≡ b → b.window + b.main < 2 ^ 32 → a.window + a.main < 2 ^ 32
light_by a b e h = omega (arith, h, ap (λ (k : Limits). k.window) e, ap (λ (k : Limits). k.main) e)

-- all that waits is done
pub all_replayed : (l j : EvictionState) (slots : List (Option Entry)) (rs : List (LookUp × ℕ)) (n : ℕ) → length rs ≤ n
    → j ≡ replay l (take n (map (waiting_of slots) rs)) → j ≡ replay l (map (waiting_of slots) rs)
all_replayed l j slots rs n le e =
    e ∙ ap (replay l) (take_all n (map (waiting_of slots) rs) (omega (arith, length_map (waiting_of slots) rs, le)))

-- what it stands for is sound
pub settled_sound : (k : UserCache) (f : Lazy) → IsSound k → IsLazy f → f.base ≡ k.live → IsSound (with_live k (settled f))
settled_sound k f sound h e =
    let r = replayed f.base f.waiting f.moment h.sound h.order in
    let at = settled_at f h in
    let there : AreSound (settled f).limits (settled f).areas =
    subst (λ (z : EvictionState). AreSound z.limits z.areas) (sym at)
    (at_same f.moment (replay f.base f.waiting) r.sound).sound in
    let limits : (settled f).limits ≡ k.live.limits =
    limits-at_moment (max (replay f.base f.waiting).moment f.moment) (replay f.base f.waiting) ∙ replay_limits f.base f.waiting
    ∙ ap (λ (z : EvictionState). z.limits) e in
    let width : (settled f).sketch.width ≡ k.live.sketch.width =
    width-at_moment (max (replay f.base f.waiting).moment f.moment) (replay f.base f.waiting) ∙ replay_width f.base f.waiting
    ∙ ap (λ (z : EvictionState). z.sketch.width) e in
    sound_with k (settled f) sound limits width (subst (λ (t : Limits). AreSound t (settled f).areas) limits there)

-- what a copy comes to once all that waits is done to it
pub frozen_sound : (k : UserCache) (l j : EvictionState) (slots : List (Option Entry)) (rs : List (LookUp × ℕ)) (m : ℕ) → IsSound k
    → IsLazy (lazy_over k.live slots rs m) → l ≡ k.live → j ≡ settled (lazy_over l slots rs m) → IsSound (with_live k j)
frozen_sound k l j slots rs m sound lazy e f =
    subst (λ (z : EvictionState). IsSound (with_live k z))
    (sym (f ∙ ap (λ (z : EvictionState). settled (lazy_over z slots rs m)) e))
    (settled_sound k (lazy_over k.live slots rs m) sound lazy refl)
