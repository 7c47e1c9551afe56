-- What a server keeps for its end. Source: this project's own.
use Rattle.std.specs.Prelude.{ℕ}
use Rattle.tc_plain.specs.declared.shared.journal.Journal.{Journal}
use Rattle.tc_plain.specs.declared.shared.journal.Journal.TheVariants.{On, Off}
use Rattle.tc_net.specs.declared.at_end.AtEnd.{AtEnd}
use Rattle.tc_net.specs.declared.at_end.AtEnd.TheVariants.{Leaves, Audits}

-- pages are kept for an audit
abbrev pub journal_of : AtEnd → Journal
journal_of Leaves = Off
journal_of Audits = On

-- how many entries a page has: as settings say where they are kept, and else the most there can be
abbrev pub page_length : AtEnd → ℕ → ℕ
page_length Leaves journal = 18446744073709551615
page_length Audits journal = journal
