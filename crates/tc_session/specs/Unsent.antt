-- Output as contracts see it. Source: this project's own.
use Rattle.std.specs.Prelude.{ℕ, ◌+◌, ◌<◌, ◌≤◌, ◌≡◌, List, [], ◌∷◌, ◌++◌, length, take, drop}
use Rattle.tc_session.specs.declared.chain.Piece.{Piece}

-- bytes that wait to be sent, and for how many more there is room
pub record Unsent : Type 0 where
  pub bytes : List ℕ
  pub room : ℕ

-- own bytes, and the data of pieces between them, each behind as many own bytes as it says
abbrev pub joined : List ℕ → List Piece → List ℕ
joined own [] = own
joined own (p ∷ ps) = take p.before own ++ (p.blob ++ joined (drop p.before own) ps)

-- how many own bytes stand before the last piece's data
abbrev pub reach : List Piece → ℕ
reach [] = 0
reach (p ∷ ps) = p.before + reach ps

-- how many bytes the data of pieces has
abbrev pub weight : List Piece → ℕ
weight [] = 0
weight (p ∷ ps) = length p.blob + weight ps

-- each piece's data has a byte at least
abbrev pub HaveData : List Piece → Type 0
HaveData [] = Unit {0}
HaveData (p ∷ ps) = (0 < length p.blob) × HaveData ps

-- so many bytes of the first piece and of those before it were sent: not all of them, and none where there is no piece
abbrev pub IsBegun : ℕ → List Piece → Type 0
IsBegun sent [] = sent ≡ 0
IsBegun sent (p ∷ ps) = sent < p.before + length p.blob

-- pieces say a text behind the own bytes that stood there: they stand within the own bytes, and each has data
pub record Says (old new : List ℕ) (pieces : List Piece) (text : List ℕ) : Type 0 where
  pub says : joined new pieces ≡ old ++ text
  pub within : reach pieces ≤ length new
  pub some : HaveData pieces

-- a text was put behind own bytes and a chain: the chain has pieces more, which say it behind the own bytes that stood there
abbrev pub IsSpliced : List ℕ → List ℕ → List Piece → List Piece → List ℕ → Type 0
IsSpliced own own_after chain chain_after text =
    (behind : List Piece) × (chain_after ≡ chain ++ behind) × Says own own_after behind text
