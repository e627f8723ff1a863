-- How pointers stand in rows: an extended pointer set (IMS: EPS) of 16 bytes in the body of a secondary index's row, and
-- the rows of an indirect list data set (IMS: ILDS), a key of 9 bytes and an entry (IMS: ILE) of 6.
use Rattle.std.specs.Prelude.{ℕ, ◌^◌, ◌<◌, List, [], ◌∷◌, ◌++◌, take, drop}
use Rattle.std.specs.Int.{w16, w32, to_be_bytes, from_be_bytes}
use Rattle.hal_base.specs.declared.place.Ilk.{Ilk}
use Rattle.eps_pointers.specs.declared.pointer.Eps.{Eps}
use Rattle.eps_pointers.specs.declared.pointer.Ile.{Ile}

-- a name: address, partition, reorganization number
abbrev pub name_bytes : Ilk → List ℕ
name_bytes name = to_be_bytes w32 name.addr ++ to_be_bytes w16 name.part ++ to_be_bytes w16 name.number

abbrev pub eps_bytes : Eps → List ℕ
eps_bytes eps = to_be_bytes w16 eps.part ++ to_be_bytes w16 eps.number ++ to_be_bytes w32 eps.addr ++ name_bytes eps.ilk

-- the bytes of a pointer's number and address, which stand from the third on
abbrev pub home_bytes : ℕ → ℕ → List ℕ
home_bytes number addr = to_be_bytes w16 number ++ to_be_bytes w32 addr

abbrev pub ile_bytes : Ile → List ℕ
ile_bytes ile = to_be_bytes w32 ile.addr ++ to_be_bytes w16 ile.number

-- the key of a row of the list: the segment's name, and its type's code
abbrev pub list_key : Ilk → ℕ → List ℕ
list_key name code = name_bytes name ++ code ∷ []

-- and back
abbrev pub name_in : List ℕ → Ilk
name_in bytes = record {
  addr = from_be_bytes w32 (take 4 bytes);
  part = from_be_bytes w16 (take 2 (drop 4 bytes));
  number = from_be_bytes w16 (take 2 (drop 6 bytes));
}

abbrev pub eps_in : List ℕ → Eps
eps_in bytes = record {
  part = from_be_bytes w16 (take 2 bytes);
  number = from_be_bytes w16 (take 2 (drop 2 bytes));
  addr = from_be_bytes w32 (take 4 (drop 4 bytes));
  ilk = name_in (drop 8 bytes);
}

abbrev pub ile_in : List ℕ → Ile
ile_in bytes = record {
  addr = from_be_bytes w32 (take 4 bytes);
  number = from_be_bytes w16 (take 2 (drop 4 bytes));
}

-- the widths of the numbers
pub record IsName (name : Ilk) : Type 0 where
  pub addr : name.addr < 2 ^ 32
  pub part : name.part < 2 ^ 16
  pub number : name.number < 2 ^ 16

pub record IsEps (eps : Eps) : Type 0 where
  pub part : eps.part < 2 ^ 16
  pub number : eps.number < 2 ^ 16
  pub addr : eps.addr < 2 ^ 32
  pub ilk : IsName eps.ilk

pub record IsIle (ile : Ile) : Type 0 where
  pub addr : ile.addr < 2 ^ 32
  pub number : ile.number < 2 ^ 16
