-- What users begin with is empty.
use Rattle.std.specs.Prelude.{All}
use Rattle.std.proofs.Common.{zero, suc, List, [], ◌∷◌, map, refl, arith}
use Rattle.tc_users.specs.declared.users.UserSpec.{UserSpec}
use Rattle.tc_fresh.specs.Beginning.{fresh_cache, IsEmptyCache}

pub fresh_caches-empty : (rows : List UserSpec) → All IsEmptyCache (map fresh_cache rows)
fresh_caches-empty [] k d lt = absurd (omega arith)
fresh_caches-empty (row ∷ rows) zero d lt = (row.budget, row.largest, refl)
fresh_caches-empty (row ∷ rows) (suc k) d lt = fresh_caches-empty rows k d (omega arith)
