-- Keys that are looked up, and noted where they were found.
use Rattle.std.specs.Prelude.{max}
use Rattle.std.proofs.Common.{◌≡◌, ℕ, zero, suc, ◌+◌, ◌<◌, List, [], ◌∷◌, ◌++◌, length, take, drop, get_or, append_assoc}
use Rattle.std.proofs.lemmas.List.{append-nil, take_more}
use Rattle.std.proofs.Common.{Option, Some, None, refl, sym, ◌∙◌, ap, subst, arith}
use Rattle.tc_item.specs.declared.slot.Slot.{Slot}
use Rattle.tc_readbuf.specs.declared.look_up.LookUp.{LookUp}
use Rattle.tc_item.specs.KeyHash.{hash}
use Rattle.tc_plain.specs.EvictionState.{EvictionState, at_moment, advanced}
use Rattle.tc_plain.specs.Doing.{all_looked_up}
use Rattle.tc_partition.specs.LiveSlots.{live_of}
use Rattle.tc_partition.specs.declared.live_slots.LiveSlots.{LiveSlots}
use Rattle.tc_partition.specs.Deferred.{IsLazy, settled}
use Rattle.tc_partition.specs.WaitingSlots.{lazy_by, ArePlaced, MayWait, IsDrained, SeeksSlot}
use Rattle.tc_partition.specs.Seeking.{noted_at, all_noted, AreHashed, SeekSlots}
use Rattle.tc_partition.proofs.Deferral.{look_state, look_answer, noted_lazy, raised_lazy, raised_settled}
use Rattle.tc_partition.proofs.Deferral.{ready_at, settled_ready, shown_alike}
use Rattle.tc_partition.proofs.Draining.{IsPut, put_hit, put_miss, all_stand}

pub put_found : (s : LiveSlots) (rs : List (LookUp × ℕ)) (m : ℕ) (key : List ℕ) (h : ℕ) (place : Option Slot) → h ≡ hash key
    → SeeksSlot place m key s → ArePlaced s.held.slots rs → IsPut s rs m key (rs ++ (noted_at h place, m) ∷ [])
put_found s rs m key h None eh at p = put_miss s rs m key h eh at p
put_found s rs m key h (Some slot) eh at p = put_hit s rs m key slot h at.0 eh at.1 at.2 at.3 p

-- look-ups of keys that wait, and what all stands for then
pub record AreNoted (s : LiveSlots) (rs : List (LookUp × ℕ)) (m : ℕ) (keys : List (List ℕ)) (new : List (LookUp × ℕ)) : Type 0
  where
    pub both : MayWait s new m
    pub settled : settled (lazy_by s new m) ≡ (all_looked_up (λ i. i) keys (settled (lazy_by s rs m))).1

pub all_wait : (s : LiveSlots) (m : ℕ) (keys : List (List ℕ)) (hashes : List ℕ) (found : List (Option Slot))
    (rs : List (LookUp × ℕ)) → AreHashed keys hashes → SeekSlots m keys found s → MayWait s rs m
    → AreNoted s rs m keys (rs ++ all_noted hashes found m)
all_wait s m [] [] [] rs e at h = record {
  both = subst (λ xs. MayWait s xs m) (sym (append-nil rs)) h;
  settled = ap (λ xs. settled (lazy_by s xs m)) (append-nil rs);
}
all_wait s m [] (w ∷ hashes) found rs e at h = absurd e
all_wait s m [] [] (p ∷ found) rs e at h = absurd at
all_wait s m (k ∷ keys) [] found rs e at h = absurd e
all_wait s m (k ∷ keys) (w ∷ hashes) [] rs e at h = absurd at
all_wait s m (k ∷ keys) (w ∷ hashes) (p ∷ found) rs e at h =
    let new : List (LookUp × ℕ) = rs ++ (noted_at w p, m) ∷ [] in
    let put = put_found s rs m k w p e.0 at.0 h.placed in
    let one : MayWait s new m = record {
      lazy = subst IsLazy (sym put.state) (noted_lazy (lazy_by s rs m) k h.lazy);
      placed = put.placed;
    } in
    let rest = all_wait s m keys hashes found new e.1 at.1 one in
    let both : AreNoted s rs m (k ∷ keys) (new ++ all_noted hashes found m) = record {
      both = rest.both;
      settled = rest.settled
          ∙ ap (λ (l : EvictionState). (all_looked_up (λ i. i) keys l).1)
          (ap settled put.state ∙ look_state (lazy_by s rs m) k h.lazy);
    } in
    subst (AreNoted s rs m (k ∷ keys)) (append_assoc rs ((noted_at w p, m) ∷ []) (all_noted hashes found m)) both

-- keys that were found at a moment, whose look-ups then wait
module _ (s : LiveSlots) (rs : List (LookUp × ℕ)) (before now m : ℕ) (keys : List (List ℕ)) (hashes : List ℕ)
    (found : List (Option Slot)) (e : m ≡ max before now) (lazy : IsLazy (lazy_by s rs before))
    (placed : ArePlaced s.held.slots rs) (hashed : AreHashed keys hashes) (seen : SeekSlots m keys found s)
  where
    up : MayWait s rs m
    up = record {
      lazy = subst (λ t. IsLazy (lazy_by s rs t)) (sym e) (raised_lazy (lazy_by s rs before) now lazy);
      placed = placed;
    }

    come : settled (lazy_by s rs m) ≡ advanced (settled (lazy_by s rs before)) now
    come = ap (λ t. settled (lazy_by s rs t)) e ∙ raised_settled (lazy_by s rs before) now lazy

    pub both_wait : MayWait s (rs ++ all_noted hashes found m) m
    both_wait = (all_wait s m keys hashes found rs hashed seen up).both

    -- what they show
    pub shown_now : (all_looked_up (λ i. i) keys (at_moment m (live_of s))).0
        ≡ (all_looked_up (λ i. i) keys (advanced (settled (lazy_by s rs before)) now)).0
    shown_now =
        shown_alike m keys (settled (lazy_by s rs m)) (at_moment m (live_of s)) (settled_ready (lazy_by s rs m) up.lazy)
        (ready_at m (live_of s) up.lazy.sound) (λ q. sym (look_answer (lazy_by s rs m) q up.lazy))
        ∙ ap (λ (l : EvictionState). (all_looked_up (λ i. i) keys l).0) come

    -- what is true once some of what waits was done
    pub waits_now : (t : LiveSlots) (left : List (LookUp × ℕ)) → IsDrained s (rs ++ all_noted hashes found m) t left
        → MayWait t left m
        × (settled (lazy_by t left m) ≡ (all_looked_up (λ i. i) keys (advanced (settled (lazy_by s rs before)) now)).1)
    waits_now t left d =
        let g = all_stand s (rs ++ all_noted hashes found m) m t left both_wait d in (
          g.0,
          g.1 ∙ (all_wait s m keys hashes found rs hashed seen up).settled
              ∙ ap (λ (l : EvictionState). (all_looked_up (λ i. i) keys l).1) come,
        )

-- what is noted from one place on
pub noted_drop : (hashes : List ℕ) (found : List (Option Slot)) (m i d : ℕ) → i < length hashes → length found ≡ length hashes
    → all_noted (drop i hashes) (drop i found) m
    ≡ (noted_at (get_or hashes i d) (get_or found i None), m) ∷ all_noted (drop (suc i) hashes) (drop (suc i) found) m
noted_drop [] found m i d lt long = absurd (omega (arith, lt))
noted_drop (w ∷ hashes) [] m i d lt long = absurd (omega (arith, long))
noted_drop (w ∷ hashes) (p ∷ found) m zero d lt long = refl
noted_drop (w ∷ hashes) (p ∷ found) m (suc i) d lt long =
    noted_drop hashes found m i d (omega (arith, lt)) (omega (arith, long))

pub none_noted : (found : List (Option Slot)) (m i : ℕ) (hashes : List ℕ) → i ≡ length hashes
    → all_noted (drop i hashes) (drop i found) m ≡ []
none_noted found m i hashes e = ap (λ ws. all_noted ws (drop i found) m) (none_left i hashes e)
  where
    none_left : (i : ℕ) (ws : List ℕ) → i ≡ length ws → drop i ws ≡ []
    none_left zero [] e = refl
    none_left zero (w ∷ ws) e = absurd (omega (arith, e))
    none_left (suc i) [] e = refl
    none_left (suc i) (w ∷ ws) e = none_left i ws (omega (arith, e))

pub found_long : (m : ℕ) (keys : List (List ℕ)) (found : List (Option Slot)) (s : LiveSlots) → SeekSlots m keys found s
    → length found ≡ length keys
found_long m [] [] s h = refl
found_long m [] (p ∷ found) s h = absurd h
found_long m (k ∷ keys) [] s h = absurd h
found_long m (k ∷ keys) (p ∷ found) s h = let rest = found_long m keys found s h.1 in omega (arith, rest)

pub found_push : (m : ℕ) (keys : List (List ℕ)) (found : List (Option Slot)) (s : LiveSlots) (key : List ℕ) (place : Option Slot)
    → SeekSlots m keys found s → SeeksSlot place m key s → SeekSlots m (keys ++ key ∷ []) (found ++ place ∷ []) s
found_push m [] [] s key place h at = (at, tt)
found_push m [] (p ∷ found) s key place h at = absurd h
found_push m (k ∷ keys) [] s key place h at = absurd h
found_push m (k ∷ keys) (p ∷ found) s key place h at = (h.0, found_push m keys found s key place h.1 at)

-- a loop over keys that has come to one key more
pub found_next : (m : ℕ) (keys : List (List ℕ)) (i : ℕ) (d key : List ℕ) (found new : List (Option Slot)) (s : LiveSlots)
    (place : Option Slot) → i < length keys → key ≡ get_or keys i d → SeekSlots m (take i keys) found s
    → SeeksSlot place m key s → new ≡ found ++ place ∷ [] → SeekSlots m (take (i + 1) keys) new s
found_next m keys i d key found new s place lt e h at same =
    subst (λ ps. SeekSlots m (take (i + 1) keys) ps s) (sym same)
    (subst (λ ks. SeekSlots m ks (found ++ place ∷ []) s) (sym (take_more keys i d lt))
    (found_push m (take i keys) found s (get_or keys i d) place h (subst (λ q. SeeksSlot place m q s) e at)))

-- a hash for each key
pub hashed_long : (keys : List (List ℕ)) (hashes : List ℕ) → AreHashed keys hashes → length hashes ≡ length keys
hashed_long [] [] h = refl
hashed_long [] (w ∷ hashes) h = absurd h
hashed_long (k ∷ keys) [] h = absurd h
hashed_long (k ∷ keys) (w ∷ hashes) h = let rest = hashed_long keys hashes h.1 in omega (arith, rest)

pub hashed_push : (keys : List (List ℕ)) (hashes : List ℕ) (key : List ℕ) (w : ℕ) → AreHashed keys hashes
    → w ≡ hash key → AreHashed (keys ++ key ∷ []) (hashes ++ w ∷ [])
hashed_push [] [] key w h at = (at, tt)
hashed_push [] (v ∷ hashes) key w h at = absurd h
hashed_push (k ∷ keys) [] key w h at = absurd h
hashed_push (k ∷ keys) (v ∷ hashes) key w h at = (h.0, hashed_push keys hashes key w h.1 at)
