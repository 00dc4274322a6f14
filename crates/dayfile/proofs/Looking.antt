-- Reading, test by test.
use mathlib.Core.Path.{◌≡◌}
use mathlib.Core.Bool.{true, false}
use mathlib.Core.List.{List}
use Prim.Native.Nat.{ℕ, ◌≤◌, ◌<◌}
use lib.ListN.{length}
use borrow.Author.Tests.{lt-ltb, le-ltb, le-leb, lt-leb}
use Rattle.digest.specs.Mac.{same_bytes}
use Rattle.dayfile.specs.File.{file_of}
use Rattle.dayfile.specs.Runs.{run_of}
use Rattle.dayfile.specs.Reading.{reports, refused, is_file_of, read_of}
use Rattle.dayfile.specs.declared.refusal.Refusal.TheVariants.{Limit, NoFile}

module _ (b : List ℕ) where
  pub read_long : 65536 < length b → read_of b ≡ refused Limit
  unfolding read_of
  read_long h = rw (lt-ltb 65536 (length b) h)

  module _ (h : length b ≤ 65536) where
    pub read_many : 4096 < length (run_of b) → read_of b ≡ refused NoFile
    unfolding read_of is_file_of
    read_many k = rw (le-ltb 65536 (length b) h, lt-leb (length (run_of b)) 4096 k)

    module _ (k : length (run_of b) ≤ 4096) where
      pub read_is : same_bytes b (file_of (run_of b)) ≡ true → read_of b ≡ reports (run_of b)
      unfolding read_of is_file_of
      read_is e = rw (le-ltb 65536 (length b) h, le-leb (length (run_of b)) 4096 k, e)

      pub read_not : same_bytes b (file_of (run_of b)) ≡ false → read_of b ≡ refused NoFile
      unfolding read_of is_file_of
      read_not e = rw (le-ltb 65536 (length b) h, le-leb (length (run_of b)) 4096 k, e)
