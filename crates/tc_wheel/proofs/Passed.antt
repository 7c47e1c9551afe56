-- Seconds that pass: which buckets are left to walk.
use Rattle.std.specs.Prelude.{Option, None, Some, ◌%◌, ◌/◌, ◌*◌, ◌-◌, min}
use Rattle.std.proofs.Common.{◌≡◌, ◌⊎◌, inl, inr, ℕ, ◌+◌, ◌<◌, ◌≤◌, true, sym, ◌∙◌, ap, arith}
use Rattle.std.proofs.Math.Nat.{add-mul-mod_self_left, div-add-mod}
use Rattle.std.proofs.lemmas.Bool.{leb-true, le-leb, cases_lt}
use Rattle.tc_wheel.specs.Dues.{due_at, is_due}
use Rattle.tc_wheel.specs.Links.{Links}
use Rattle.tc_wheel.specs.Kept.{Awaits, AreKept, IsSwept}

-- what is due at an earlier moment is due later
due_still : (early late : ℕ) (o : Option ℕ) → early ≤ late → is_due early o ≡ true → is_due late o ≡ true
due_still early late None h e = absurd (cc)
due_still early late (Some due) h e = le-leb due late (let before : due ≤ early = leb-true due early e in omega arith)

-- the bucket of a due is that of a second less than a revolution before a later moment
awaits_soon : (k moment left due : ℕ) → due ≤ moment → (moment - due) % k < left → Awaits k moment left due
awaits_soon k moment left due early within =
    let back : ℕ = (moment - due) % k in
    let turns : ℕ = (moment - due) / k in
    let whole : k * turns + back ≡ moment - due = div-add-mod (moment - due) k in
    let same : moment - back ≡ due + k * turns = omega (arith, whole) in
    record { back = back; within = within; same = sym (add-mul-mod_self_left due k turns) ∙ ap (λ x. x % k) (sym same) }

awaits_passed : (k since moment left due : ℕ) → 0 < k → due ≤ moment → (due ≤ since → Awaits k since left due) → since ≤ moment
    → Awaits k moment (min (left + (moment - since)) k) due
awaits_passed k since moment left due some early before order = go (cases_lt (left + (moment - since)) k) (cases_lt since due)
  where
    low : (moment - due) % k < k
    low = omega arith

    whole : k * ((moment - due) / k) + (moment - due) % k ≡ moment - due
    whole = div-add-mod (moment - due) k

    go : (left + (moment - since) < k) ⊎ (k ≤ left + (moment - since)) → (since < due) ⊎ (due ≤ since)
        → Awaits k moment (min (left + (moment - since)) k) due
    go (inr full) c = awaits_soon k moment (min (left + (moment - since)) k) due early (omega (arith, low))
    go (inl few) (inl after) = awaits_soon k moment (min (left + (moment - since)) k) due early (omega (arith, whole))
    go (inl few) (inr h) =
        let w : Awaits k since left due = before h in
        let back : ℕ = w.back + (moment - since) in
        let same : since - w.back ≡ moment - back = omega arith in
        record { back = back; within = omega (arith, w.within); same = w.same ∙ ap (λ x. x % k) same }

-- the moment goes on: these buckets are to be walked
pub swept_passed : (k since moment left : ℕ) (l : Links) → 0 < k → since ≤ moment → IsSwept k since left l
    → IsSwept k moment (min (left + (moment - since)) k) l
swept_passed k since moment left l some order s =
    let a : AreKept k since left l s.lists = s.kept in
    record {
      lists = s.lists;
      kept = record {
        count = a.count;
        ring = a.ring;
        dues_long = a.dues_long;
        marks = a.marks;
        kept = a.kept;
        late = λ n among. due_still since moment (due_at l.notes n) order (a.late n among);
        rest = λ n due out noted_is early. awaits_passed k since moment left due some early (a.rest n due out noted_is) order;
      };
    }
