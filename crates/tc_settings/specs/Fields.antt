-- The fields of a settings text, as a TOML reader gives them. Source:
-- docs/OPERATING.md, 'Settings', and TOML's own definition (toml.io).
use Rattle.std.specs.Prelude.{ℕ, ℤ, pos, List, [], ◌∷◌, Option, Some, None}
use Rattle.toml.specs.Data.{Data, string, integer, float, boolean, datetime, array, table, Items, no_items, item, get}
use Rattle.tc_users.specs.declared.settings_fault.Field.{Field}
use Rattle.tc_users.specs.declared.settings_fault.Found.{Found}
use Rattle.tc_users.specs.declared.settings_fault.Found.TheVariants.{Nothing, Text, WholeNumber, Float, Boolean, DateTime, Array}
use Rattle.tc_users.specs.declared.settings_fault.Found.TheVariants.{Table}
use Rattle.tc_users.specs.declared.settings_fault.SettingsFault.{SettingsFault}
use Rattle.tc_users.specs.declared.settings_fault.SettingsFault.TheVariants.{Missing}
use Rattle.tc_users.specs.Fields.{key_of}

-- what a table has in the field
abbrev pub field_in : Field → Data → Option Data
field_in field d = get (key_of field) d

-- the kind of a value
abbrev pub found_of : Data → Found
found_of (string text) = Text
found_of (integer z) = WholeNumber
found_of (float x) = Float
found_of (boolean b) = Boolean
found_of (datetime moment) = DateTime
found_of (array items) = Array
found_of (table fields) = Table

-- what stands in the field in place of what is wanted
abbrev pub found_in : Option Data → Found
found_in None = Nothing
found_in (Some d) = found_of d

-- the text there; no bytes where there is none
abbrev pub text_in : Option Data → List ℕ
text_in (Some (string text)) = text
text_in other = []

-- the whole number there; 0 where there is none
abbrev pub number_in : Option Data → ℤ
number_in (Some (integer z)) = z
number_in other = pos 0

-- a text is wanted
abbrev pub missing_text : Field → Option Data → Option SettingsFault
missing_text field (Some (string text)) = None
missing_text field other = Some (Missing field (found_in other))

-- a whole number is wanted
abbrev pub missing_number : Field → Option Data → Option SettingsFault
missing_number field (Some (integer z)) = None
missing_number field other = Some (Missing field (found_in other))

-- the text that the field should hold is missing
abbrev pub missing_text_in : Field → Data → Option SettingsFault
missing_text_in field d = missing_text field (field_in field d)

-- the whole number that the field should hold is missing
abbrev pub missing_number_in : Field → Data → Option SettingsFault
missing_number_in field d = missing_number field (field_in field d)

-- the fault of a field that may be left out
abbrev pub if_there : Option Data → Option SettingsFault → Option SettingsFault
if_there None fault = None
if_there (Some d) fault = fault

-- the values of an array
abbrev pub list_of : Items → List Data
list_of no_items = []
list_of (item d ds) = d ∷ list_of ds
