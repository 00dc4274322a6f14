-- The list of MAC kinds in its two editions (002 appendix A, table 6; 02, P11).
use Rattle.std.specs.Prelude.{ℕ, Bool, true, false, List, [], ◌==◌, Option, Some, None, Result, Ok, Err}
use Rattle.digest.specs.Pick.{pick}
use Rattle.digest.specs.Named.{Told, sha0, sha40, sha80, sha, sha_xor40, md540, md580, md5}
use Rattle.digest.specs.declared.edition.Entry.{Entry}
use Rattle.digest.specs.declared.named.Sizes.{Sizes}
use Rattle.digest.specs.declared.named.Unnamed.{Unnamed}
use Rattle.digest.specs.declared.named.Unnamed.TheVariants.{Unlisted, UnknownEdition}

-- an entry: its name, its sizes where they are shown, and whether each edition lists it
abbrev pub row : List ℕ → Option Sizes → Bool → Bool → Entry
row name sizes older later = record { named = record { name = name; sizes = sizes }; older = older; later = later }

-- one that both editions list, with its key size and its code size
abbrev pub both : List ℕ → ℕ → ℕ → Entry
both name key code = row name (Some (record { key = key; code = code })) true true

-- the one table: the entry of a number, where there is one
unfoldable pub entry_of : ℕ → Option Entry
entry_of n =
    pick (n == 0) (Some (both sha0 0 0))
    (pick (n == 1) (Some (both sha40 20 5))
    (pick (n == 2) (Some (both sha80 20 10))
    (pick (n == 3) (Some (both sha 20 20))
    (pick (n == 4) (Some (row sha_xor40 None true false))
    (pick (n == 5) (Some (both md540 16 5))
    (pick (n == 6) (Some (both md580 16 10))
    (pick (n == 7) (Some (both md5 16 16))
    None)))))))

-- the entry, where the edition has it
abbrev pub where_listed : (Entry → Bool) → Option Entry → Option Entry
where_listed lists (Some e) = pick (lists e) (Some e) None
where_listed lists None = None

-- what is said of the entry that an edition lists; an unlisted number has no name
abbrev pub named : Option Entry → Result Told Unnamed
named (Some e) = Ok e.named
named None = Err Unlisted

-- what an edition says of a number: 1 the older list, 2 that of April 2001
unfoldable pub named_in : ℕ → ℕ → Result Told Unnamed
named_in edition n =
    pick (edition == 1) (named (where_listed (λ e. e.older) (entry_of n)))
    (pick (edition == 2) (named (where_listed (λ e. e.later) (entry_of n)))
    (Err UnknownEdition))

-- the name and the sizes that were said: none where there is no name
abbrev pub name_in : Result Told Unnamed → List ℕ
name_in (Ok told) = told.name
name_in (Err why) = []

abbrev pub sizes_in : Result Told Unnamed → Option Sizes
sizes_in (Ok told) = told.sizes
sizes_in (Err why) = None
