-- Values at the edges, which the definitions compute to, and the refusal numbers of a judged number.
use mathlib.Core.Path.{◌≡◌, refl}
use mathlib.Core.Bool.{true, false}
use mathlib.Core.List.{List}
use Prim.Native.Nat.{ℕ, ◌+◌, ◌%◌, ◌^◌, ◌≤◌, ◌<◌}
use native.Mathlib.Nat.{mod-eq_of_lt}
use lib.Pow.{pow_pos}
use borrow.Author.Tests.{le-leb, lt-leb}
use Rattle.record.specs.Keys.{key_number}
use Rattle.record.specs.Window.{held_width, fresh_window, arrived_at, accept_by, accept_of, acceptance_number}
use Rattle.record.specs.History.{accepted, highest_of, judged_of}

-- the highest refresh that still divides the numbers, and the highest of all
pub refresh_15 : (key_number 15 65535 ≡ 32768) × (key_number 15 32767 ≡ 0)
unfolding key_number
refresh_15 = (refl, refl)

pub refresh_255 : key_number 255 65535 ≡ 0
unfolding key_number
refresh_255 = refl

no_mark : (w : ℕ) → 0 % 2 ^ w ≡ 0
no_mark w = mod-eq_of_lt (pow_pos w)

-- a fresh window takes the highest number there is, and the lowest
pub fresh_highest : (width : ℕ) → accept_of (fresh_window width) 65535 ≡ arrived_at (held_width width) 65535 1
unfolding accept_by
fresh_highest width = rw (no_mark (held_width width))

pub fresh_lowest : (width : ℕ) → accept_of (fresh_window width) 0 ≡ arrived_at (held_width width) 0 1
unfolding accept_by
fresh_lowest width = rw (no_mark (held_width width))

-- at a history h: 10 exactly for what is too old, 11 for what else was accepted before, 0 for the rest
pub old_number : (w : ℕ) (h : List ℕ) (s : ℕ) → s + w ≤ highest_of h → acceptance_number (judged_of w h s) ≡ 10
unfolding judged_of
old_number w h s k = rw (le-leb (s + w) (highest_of h) k) refl

pub repeated_number : (w : ℕ) (h : List ℕ) (s : ℕ) → highest_of h < s + w → accepted h s ≡ true → acceptance_number (judged_of w h s) ≡ 11
unfolding judged_of
repeated_number w h s k a = rw (lt-leb (s + w) (highest_of h) k, a) refl

pub new_number : (w : ℕ) (h : List ℕ) (s : ℕ) → highest_of h < s + w → accepted h s ≡ false → acceptance_number (judged_of w h s) ≡ 0
unfolding judged_of
new_number w h s k a = rw (lt-leb (s + w) (highest_of h) k, a) refl
