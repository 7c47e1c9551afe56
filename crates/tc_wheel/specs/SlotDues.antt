-- When a slot is due, as it is noted: by the second behind its due, and by 0 where it is not held.
use Rattle.std.specs.Prelude.{Option, Some, None}
use Rattle.std.proofs.Common.{◌≡◌, ℕ, zero, suc, refl}

-- the due before this second
abbrev pub due_of : ℕ → Option ℕ
due_of zero = None
due_of (suc due) = Some due

-- the second behind this due
abbrev pub end_of : Option ℕ → ℕ
end_of None = 0
end_of (Some due) = suc due

pub end_of-due_of : (end : ℕ) → end_of (due_of end) ≡ end
end_of-due_of zero = refl
end_of-due_of (suc due) = refl
