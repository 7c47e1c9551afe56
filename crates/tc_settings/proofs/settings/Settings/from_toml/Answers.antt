use Rattle.std.proofs.Common.{sym, ◌∙◌, ap}
use Rattle.std.proofs.lemmas.Option.{same_Some}
use Rattle.std.proofs.lemmas.Result.{IfErr-at_err}
use Rattle.toml.specs.Data.{table}
use Rattle.toml.specs.View.{view}
use Rattle.toml.specs.declared.value.Value.{Table}
use Rattle.toml.proofs.Views.{view-Table}
use Rattle.tc_settings.specs.SettingsTable.{IsFaultOfTable}
use Rattle.tc_settings.proofs.UserTables.{parse_document-blank, empty_table-not_refused}
use Rattle.tc_settings.proofs.settings.Settings.from_toml.Goals as goal

pub returns-in-Ok-clause-memory : goal.returns-in-Ok-clause-memory
returns-in-Ok-clause-memory c refused blank =
    let empty = same_Some _ _ (sym c.in-Ok.ensures.ok ∙ parse_document-blank c.args.text.now blank) in
    let seen = view-Table c.in-Ok.table ∙ ap table empty in
    empty_table-not_refused _ seen
    (IfErr-at_err (IsFaultOfTable (view (Table c.in-Ok.table))) refused c.read_settings.ensures.fault)
