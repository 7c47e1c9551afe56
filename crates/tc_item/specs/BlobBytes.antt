-- Which bytes a blob's block has, by how many it has room for. Source: this project's own.
use Rattle.std.specs.Prelude.{List, ℕ}
use Rattle.tc_item.specs.declared.blob.Shared.{Shared}
use Rattle.tc_item.specs.declared.blob.Shared.TheVariants.{UpTo8, UpTo40, UpTo72, UpTo104, UpTo168, UpTo232, Longer}

-- all of the block's
abbrev pub bytes_shared : Shared → List ℕ
bytes_shared (UpTo8 shared) = shared.value.items
bytes_shared (UpTo40 shared) = shared.value.items
bytes_shared (UpTo72 shared) = shared.value.items
bytes_shared (UpTo104 shared) = shared.value.items
bytes_shared (UpTo168 shared) = shared.value.items
bytes_shared (UpTo232 shared) = shared.value.items
bytes_shared (Longer shared) = shared.value.items
