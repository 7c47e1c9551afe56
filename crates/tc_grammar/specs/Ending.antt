-- How a line ends. Source: memcached's doc/protocol.txt, "noreply".
use Rattle.std.specs.Prelude.{ℕ, Bool, true, false, bytes_eq, codes, if◌then◌else◌, List, [], ◌∷◌, Option, Some, None}

-- a value, where no token follows
abbrev pub ended : {A : Type 0} → A → List (List ℕ) → Option A
ended x [] = Some x
ended x (_ ∷ _) = None

-- whether a line is quiet that ends here, or with the one token `noreply`
unfoldable pub quiet_of : List (List ℕ) → Option Bool
quiet_of [] = Some false
quiet_of (token ∷ rest) = if bytes_eq token (codes "noreply") then ended true rest else None

-- the tokens behind a `0`, which old clients send after the key of `delete`
unfoldable pub without_zero : List (List ℕ) → List (List ℕ)
without_zero [] = []
without_zero (token ∷ rest) = if bytes_eq token (codes "0") then rest else token ∷ rest
