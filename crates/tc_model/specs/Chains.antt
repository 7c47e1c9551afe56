-- Lists of nodes in one ring. Before list i stands the mark i, so that no list is ever empty in the ring.
use Rattle.std.specs.Prelude.{Bool, false, ◌||◌, ℕ, zero, suc, List, [], ◌∷◌, ◌++◌, filter, not, ◌==◌}
use Rattle.tc_model.specs.Ring.{IsRing, Linked, AreDistinct, walk}

-- x is the node n
abbrev pub is_node : ℕ → ℕ → Bool
is_node n x = x == n

-- the lists one behind another, each behind its mark, the first of which is m
abbrev pub marked : ℕ → List (List ℕ) → List ℕ
marked m [] = []
marked m (xs ∷ xss) = m ∷ (xs ++ marked (suc m) xss)

-- these nodes stand in one ring
abbrev pub IsLoop : List ℕ → List ℕ → List ℕ → Type 0
IsLoop next prev [] = Unit {0}
IsLoop next prev (x ∷ xs) = IsRing next prev x xs

-- these lists stand in one ring, behind their marks
abbrev pub AreChained : List ℕ → List ℕ → List (List ℕ) → Type 0
AreChained next prev lists = IsLoop next prev (marked 0 lists)

-- each list is linked from its mark to the next mark, and the last one to b
abbrev pub AreLinked : List ℕ → List ℕ → ℕ → List (List ℕ) → ℕ → Type 0
AreLinked next prev m [] b = Unit {0}
AreLinked next prev m (xs ∷ []) b = Linked next prev m xs b
AreLinked next prev m (xs ∷ ys ∷ yss) b = Linked next prev m xs (suc m) × AreLinked next prev (suc m) (ys ∷ yss) b

-- no list has a node twice
abbrev pub EachDistinct : List (List ℕ) → Type 0
EachDistinct [] = Unit {0}
EachDistinct (xs ∷ xss) = AreDistinct xs × EachDistinct xss

-- list i with n at its front
abbrev pub fronted : ℕ → ℕ → List (List ℕ) → List (List ℕ)
fronted i n [] = []
fronted zero n (xs ∷ xss) = (n ∷ xs) ∷ xss
fronted (suc i) n (xs ∷ xss) = xs ∷ fronted i n xss

-- a list without n
abbrev pub without_node : ℕ → List ℕ → List ℕ
without_node n xs = filter (λ x. not (is_node n x)) xs

-- n is one of these
abbrev pub is_among : ℕ → List ℕ → Bool
is_among n [] = false
is_among n (x ∷ xs) = is_node n x || is_among n xs

-- the lists behind the marks from m on, by how many each holds
abbrev pub walks : ℕ → List ℕ → List ℕ → List (List ℕ)
walks m next [] = []
walks m next (n ∷ ns) = walk n next m ∷ walks (suc m) next ns
