-- Why bytes are no key. Source: memcached's doc/protocol.txt, 'Commands'; the order of the reasons is this project's own.
use Rattle.std.specs.Prelude.{ℕ, nat_lt, ◌==◌, if◌then◌else◌, List, length, Option, Some, None}
use Rattle.std.specs.List.{list_all}
use Rattle.tc_item.specs.Bounds.{longest_key}
use Rattle.tc_item.specs.KeyRule.{is_key_byte}
use Rattle.tc_item.specs.declared.key.KeyFault.{KeyFault}
use Rattle.tc_item.specs.declared.key.KeyFault.TheVariants.{Empty, TooLong, BadByte}

-- the first of three reasons why bytes are no key: there are none, more than 250, or a bad one
abbrev pub key_fault : List ℕ → Option KeyFault
key_fault bytes =
    if length bytes == 0 then Some Empty
    else if nat_lt longest_key (length bytes) then Some TooLong
    else if list_all is_key_byte bytes then None
    else Some BadByte
