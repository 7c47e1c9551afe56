-- The law of cutting. Source: this project's own.
use Rattle.std.specs.Prelude.{◌≡◌, ℕ, List, ◌++◌, Some}
use Rattle.tc_feed.specs.declared.request.Framed.{Framed}
use Rattle.tc_feed.specs.Stream.{Reader, more, first}

-- what is found in some bytes is found in them whatever comes after
abbrev pub IsFoundInMore : Type 0
IsFoundInMore =
    (limit : ℕ) (unread later : List ℕ) (t : Framed) → first limit unread ≡ Some t → first limit (unread ++ later) ≡ Some t

-- two pieces are as good as one
abbrev pub IsCutAnywhere : Type 0
IsCutAnywhere = (r : Reader) (a b : List ℕ) → more (more r a) b ≡ more r (a ++ b)
