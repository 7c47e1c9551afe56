-- How slots stand in the ring: k buckets, and behind them the list of what is due (timing wheels, Varghese and Lauck 1987).
use Rattle.std.specs.Prelude.{◌≡◌, Bool, true, false, ◌==◌, Option, Some, None, ℕ, zero, suc, ◌-◌, ◌%◌, ◌<◌, ◌≤◌, nat_le, cond}
use Rattle.std.specs.Prelude.{List, [], ◌∷◌, length}
use Rattle.tc_model.specs.Chains.{AreChained, is_among}
use Rattle.tc_wheel.specs.Dues.{due_at, is_due}
use Rattle.tc_wheel.specs.Links.{Links}

-- list i of these
abbrev pub list_at : ℕ → List (List ℕ) → List ℕ
list_at i [] = []
list_at zero (xs ∷ xss) = xs
list_at (suc i) (xs ∷ xss) = list_at i xss

-- what is held is due in bucket i of k
abbrev pub in_bucket : ℕ → ℕ → Option ℕ → Bool
in_bucket k i None = false
in_bucket k i (Some due) = due % k == i

-- the list of a due at a moment: that of what is due, which is the last, or its bucket
abbrev pub list_of : ℕ → ℕ → ℕ → ℕ
list_of k moment due = cond (nat_le due moment) k (due % k)

-- what is held stands in bucket i, if it does not stand in the list of what is due
abbrev pub stands_in : ℕ → ℕ → Bool → Option ℕ → Bool
stands_in k i true due = false
stands_in k i false due = in_bucket k i due

-- the bucket of this due is that of one of so many seconds up to a moment
pub record Awaits (k moment left due : ℕ) : Type 0 where
  pub back : ℕ
  pub within : back < left
  pub same : due % k ≡ (moment - back) % k

-- these lists stand in the ring; what is due and not in the last of them awaits one of the seconds that are left to walk
pub record AreKept (k moment left : ℕ) (l : Links) (lists : List (List ℕ)) : Type 0 where
  pub count : length lists ≡ suc k
  pub ring : AreChained l.next l.prev lists
  pub dues_long : length l.notes ≡ length l.next
  pub marks : (n : ℕ) → n ≤ k → due_at l.notes n ≡ None
  pub kept : (i n : ℕ) → i < k → is_among n (list_at i lists) ≡ stands_in k i (is_among n (list_at k lists)) (due_at l.notes n)
  pub late : (n : ℕ) → is_among n (list_at k lists) ≡ true → is_due moment (due_at l.notes n) ≡ true
  pub rest : (n due : ℕ) → is_among n (list_at k lists) ≡ false → due_at l.notes n ≡ Some due → due ≤ moment
      → Awaits k moment left due

-- lists of these links are kept so
pub record IsSwept (k moment left : ℕ) (l : Links) : Type 0 where
  pub lists : List (List ℕ)
  pub kept : AreKept k moment left l lists

-- a node that is due at a moment; or none, and none is due then once all seconds up to that moment are walked
abbrev pub IsListed : Option ℕ → ℕ → Links → Type 0
IsListed None moment l = (now : ℕ) → moment ≤ now → IsSwept 4096 now 0 l → (n : ℕ) → is_due moment (due_at l.notes n) ≡ false
IsListed (Some n) moment l = is_due moment (due_at l.notes n) ≡ true

-- a node that is due at a moment, or none where none is
abbrev pub IsNext : Option ℕ → ℕ → Links → Type 0
IsNext None moment l = (n : ℕ) → is_due moment (due_at l.notes n) ≡ false
IsNext (Some n) moment l = is_due moment (due_at l.notes n) ≡ true
