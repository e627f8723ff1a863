-- The address of a cell, as the format of data blocks says: four bits for the letter, sixteen for the page, twelve
-- for the offset in the page.
use Rattle.std.specs.Prelude.{ℕ, ◌+◌, ◌-◌, ◌*◌, ◌/◌, ◌%◌, ◌^◌}
use Rattle.hal_base.specs.declared.pages.SetId.{SetId}

-- A to J, and M to V, are 0 to 9
abbrev pub letter_index : ℕ → ℕ
letter_index letter = (letter - 65) % 12

abbrev pub address : SetId → ℕ → ℕ → ℕ
address set page offset = letter_index set.letter * 2 ^ 28 + page * 2 ^ 12 + offset

abbrev pub page_at : ℕ → ℕ
page_at at = at / 2 ^ 12 % 2 ^ 16

abbrev pub offset_at : ℕ → ℕ
offset_at at = at % 2 ^ 12
