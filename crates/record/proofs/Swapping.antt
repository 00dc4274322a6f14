-- Two numbers accepted in either order (02, P12). The idea: accepting s at highest n moves all marks to the new highest
-- number h, and sets that of s, which was free: the marks are then m * 2 ^ (h - n) + 2 ^ (h - s), cut to the width. A second
-- number does the same, and what comes out is alike in both.
use mathlib.Core.Path.{◌≡◌, refl, sym, ap, ap₂, ◌∙◌}
use mathlib.Core.Bool.{false}
use Prim.Native.Nat.{ℕ, zero, suc, ◌+◌, ◌-◌, ◌*◌, ◌/◌, ◌%◌, ◌^◌, ◌≤◌, ◌<◌, max}
use native.Mathlib.Nat.{add-mul, mul_assoc, mul-one, mod-lt, mod-mod, mod-eq_of_lt, mod-add-mod, mod-add-div', add-mul-mod_self_right, add_right_comm, mul_right_comm}
use native.Mathlib.Omega.{arith}
use lib.Bits.{or_lt}
use lib.Dec.{lit≤, eqb, leb, ltb}
use lib.Pow.{pow-add, pow-lt, pow_pos}
use borrow.Author.Tests.{eq-eqb, eqb-true, leb-false, ltb-true, ltb-false}
use Rattle.record.specs.Window.{Held, held_width, accept_by, accept_within, accept_of, arrived_at}
use Rattle.record.specs.Bench.{Swapped, EitherOrder, OneOrder}
use Rattle.record.specs.declared.window.Window.{Window}
use Rattle.record.proofs.Histories.{decide, held_is, held_some}
use Rattle.record.proofs.Marks.{lowest_set, mark_added}
use Rattle.record.proofs.Answers.{fresh_when, newer_when, old_when, repeated_when, older_when}
use Rattle.std.specs.Prelude.{Result, Ok}
use Rattle.record.specs.declared.window.NotNew.{NotNew}

eqb-false : (a b : ℕ) → eqb a b ≡ false → a ≡ b → ⊥
eqb-false a b e f = let z : ◌≡◌ {A = ℕ} 0 1 = cc (sym (eq-eqb a b f) ∙ e) in absurd (omega arith)

-- ---- one number

-- the marks below h, moved there from n, with that of s
abbrev marks_at : (h n m s : ℕ) → ℕ
marks_at h n m s = m * 2 ^ (h - n) + 2 ^ (h - s)

abbrev window_at : (w h m : ℕ) → Window
window_at w h m = record { width = w; highest = h; marks = m % 2 ^ w }

one_lt : (w : ℕ) → 0 < w → 1 < 2 ^ w
one_lt w p = pow-lt {i = 0} {j = w} p

newer_marks : (w n m s : ℕ) → 0 < w → n < s → m * 2 ^ (s - n) % 2 ^ w + 1 ≡ marks_at s n m s % 2 ^ w
newer_marks w n m s p l =
    let x : ℕ = m * 2 ^ (s - n) in
    let small : x % 2 ^ w + 1 < 2 ^ w =
    omega (arith, lowest_set m (s - n) w (omega arith) p, or_lt w (x % 2 ^ w) 1 (mod-lt x (pow_pos w)) (one_lt w p)) in
    let own : s - s ≡ 0 = omega arith in
    sym (mod-eq_of_lt small) ∙ mod-add-mod x (2 ^ w) 1 ∙ ap (λ (k : ℕ). (x + 2 ^ k) % 2 ^ w) (sym own)

free : (d : ℕ) → d < 2 → (d ≡ 1 → ⊥) → d ≡ 0
free zero h f = refl
free (suc zero) h f = absurd (f refl)
free (suc (suc d)) h f = absurd (omega arith)

older_marks : (w n m s : ℕ) → m < 2 ^ w → s ≤ n → n < s + w → m / 2 ^ (n - s) % 2 ≡ 0 → m + 2 ^ (n - s) ≡ marks_at n n m s % 2 ^ w
older_marks w n m s b l q e =
    let j : ℕ = n - s in
    let small : m + 2 ^ j < 2 ^ w = omega (arith, mark_added m j e, or_lt w m (2 ^ j) b (pow-lt {i = j} {j = w} (omega arith))) in
    let own : n - n ≡ 0 = omega arith in
    sym (mod-eq_of_lt small) ∙ ap (λ (x : ℕ). (x + 2 ^ j) % 2 ^ w) (sym (mul-one m) ∙ ap (λ (k : ℕ). m * 2 ^ k) (sym own))

-- what an accepted number leaves, and that it has a mark
record Left (w n m s : ℕ) (v : Window) : Type 0 where
  pub window : v ≡ window_at w (max n s) (marks_at (max n s) n m s)
  pub some : 0 < v.marks

-- the window of a number that is new
window_in : {v x : Window} {k j : ℕ} → ◌≡◌ {A = Result (Window × ℕ) NotNew} (Ok (v, k)) (Ok (x, j)) → v ≡ x
window_in {v} {x} {k} {j} e = let is : ◌≡◌ {A = Window × ℕ} (v, k) (x, j) = cc in ap (λ y. y.0) is

left_by : (w n m s h x k : ℕ) (v : Window) → x ≡ marks_at h n m s % 2 ^ w → h ≡ max n s → 0 < x → accept_by w n m s ≡ arrived_at w h x → accept_by w n m s ≡ Ok (v, k) → Left w n m s v
left_by w n m s h x k v marks top some e f =
    let is : v ≡ record { width = w; highest = h; marks = x } = window_in (sym f ∙ e) in
    record {
      window = is ∙ ap (λ (y : ℕ). record { width = w; highest = h; marks = y }) marks ∙ ap (λ (y : ℕ). window_at w y (marks_at y n m s)) top;
      some = rw (ap (λ (y : Window). y.marks) is) some;
    }

left : (w n m s k : ℕ) (v : Window) → 0 < w → (m ≡ 0 → ⊥) → m < 2 ^ w → accept_by w n m s ≡ Ok (v, k) → Left w n m s v
left w n m s k v p z b f =
    decide (ltb n s)
    (λ e.
    let l : n < s = ltb-true n s e in
    left_by w n m s s (m * 2 ^ (s - n) % 2 ^ w + 1) k v (newer_marks w n m s p l) (omega arith) (omega arith) (newer_when w n m s z l) f)
    (λ e.
    let l : s ≤ n = ltb-false n s e in
    decide (leb (s + w) n)
    (λ old. let y : ◌≡◌ {A = ℕ} 0 1 = cc (sym f ∙ old_when w n m s z l old) in absurd (omega arith))
    (λ young. decide (eqb (m / 2 ^ (n - s) % 2) 1)
    (λ set-bit. let y : ◌≡◌ {A = ℕ} 0 1 = cc (sym f ∙ repeated_when w n m s z l young set-bit) in absurd (omega arith))
    (λ clear.
    let d : ℕ = m / 2 ^ (n - s) % 2 in
    let none : d ≡ 0 = free d (mod-lt (m / 2 ^ (n - s)) (pow_pos 1)) (eqb-false d 1 clear) in
    left_by w n m s n (m + 2 ^ (n - s)) k v (older_marks w n m s b l (leb-false (s + w) n young) none) (omega arith)
    (omega (arith, pow_pos (n - s))) (older_when w n m s z l young clear) f)))

-- ---- two numbers

cut_mul : (x c d m : ℕ) → (x % m * c + d) % m ≡ (x * c + d) % m
cut_mul x c d m =
    let q : ℕ = x / m in
    let whole : x * c + d ≡ x % m * c + d + q * c * m =
    ap (λ (y : ℕ). y * c + d) (sym (mod-add-div' x m)) ∙ spread (x % m) q c d m in
    sym (ap (λ (y : ℕ). y % m) whole ∙ add-mul-mod_self_right (x % m * c + d) (q * c) m)
  where
    spread : (r q c d m : ℕ) → (r + q * m) * c + d ≡ r * c + d + q * c * m
    spread r q c d m =
        ap (λ (y : ℕ). y + d) (add-mul r (q * m) c ∙ ap (λ (y : ℕ). r * c + y) (mul_right_comm q m c)) ∙ add_right_comm (r * c) (q * c * m) d

moved_on : (m h n g : ℕ) → n ≤ h → h ≤ g → m * 2 ^ (h - n) * 2 ^ (g - h) ≡ m * 2 ^ (g - n)
moved_on m h n g k l =
    let all : h - n + (g - h) ≡ g - n = omega arith in
    mul_assoc m (2 ^ (h - n)) (2 ^ (g - h))
    ∙ ap (λ (x : ℕ). m * x) (sym (pow-add 2 (h - n) (g - h)) ∙ ap (λ (x : ℕ). 2 ^ x) all)

-- at h first and then at g
both_marks : (w n m a b h g : ℕ) → n ≤ h → a ≤ h → h ≤ g → marks_at g h (marks_at h n m a % 2 ^ w) b % 2 ^ w ≡ (m * 2 ^ (g - n) + 2 ^ (g - a) + 2 ^ (g - b)) % 2 ^ w
both_marks w n m a b h g k l q =
    let all : h - a + (g - h) ≡ g - a = omega arith in
    cut_mul (marks_at h n m a) (2 ^ (g - h)) (2 ^ (g - b)) (2 ^ w)
    ∙ ap (λ (x : ℕ). (x + 2 ^ (g - b)) % 2 ^ w)
    (add-mul (m * 2 ^ (h - n)) (2 ^ (h - a)) (2 ^ (g - h))
    ∙ ap₂ (λ (x y : ℕ). x + y) (moved_on m h n g k q) (sym (pow-add 2 (h - a) (g - h)) ∙ ap (λ (x : ℕ). 2 ^ x) all))

-- the width that a window keeps is one that it may have
held_in : (x : ℕ) → Held (held_width x)
unfolding held_width
held_in x =
    decide (ltb x 32) (λ e. rw e (lit≤ tt, lit≤ tt))
    (λ e. decide (ltb 64 x) (λ f. rw (e, f) (lit≤ tt, lit≤ tt)) (λ f. rw (e, f) (ltb-false x 32 e, ltb-false 64 x f)))

-- a window that an acceptance leaves is judged as it stands
again : (w h m s : ℕ) → Held w → accept_of (window_at w h m) s ≡ accept_by w h (m % 2 ^ w) s
again w h m s k =
    ap (λ (x : ℕ). accept_within x (window_at w h m) s) (held_is w k) ∙ ap (λ (x : ℕ). accept_by w h x s) (mod-mod m (2 ^ w))

-- the second number, at the window that a first one leaves
second : (w h m s k : ℕ) (v x : Window) → Held w → v ≡ window_at w h m → 0 < v.marks → accept_of v s ≡ Ok (x, k) → x ≡ window_at w (max h s) (marks_at (max h s) h (m % 2 ^ w) s)
second w h m s k v x held e some f =
    let marks : v.marks ≡ m % 2 ^ w = ap (λ (y : Window). y.marks) e in
    (left w h (m % 2 ^ w) s k x (held_some w held) (λ z. omega arith) (mod-lt m (pow_pos w))
    (sym (again w h m s held) ∙ ap (λ (y : Window). accept_of y s) (sym e) ∙ f)).window

-- the marks of both, and the highest number of the three
abbrev both_at : (w n m a b : ℕ) → Window
both_at w n m a b =
    window_at w (max (max n a) b) (m * 2 ^ (max (max n a) b - n) + 2 ^ (max (max n a) b - a) + 2 ^ (max (max n a) b - b))

both : (w n m a b i j : ℕ) (v x : Window) → Held w → (m ≡ 0 → ⊥) → m < 2 ^ w → accept_by w n m a ≡ Ok (v, i) → accept_of v b ≡ Ok (x, j) → x ≡ both_at w n m a b
both w n m a b i j v x held z small e f =
    let h : ℕ = max n a in
    let g : ℕ = max h b in
    let one : Left w n m a v = left w n m a i v (held_some w held) z small e in
    second w h (marks_at h n m a) b j v x held one.window one.some f
    ∙ ap (λ (y : ℕ). record { width = w; highest = g; marks = y })
    (both_marks w n m a b h g (omega arith) (omega arith) (omega arith))

-- where no mark counts, the first number is as if it had been there
both_fresh : (w n m a b i j : ℕ) (v x : Window) → Held w → m ≡ 0 → accept_by w n m a ≡ Ok (v, i) → accept_of v b ≡ Ok (x, j) → x ≡ window_at w (max a b) (1 * 2 ^ (max a b - a) + 2 ^ (max a b - b))
both_fresh w n m a b i j v x held z e f =
    let is : v ≡ record { width = w; highest = a; marks = 1 } = window_in (sym e ∙ fresh_when w n m a z) in
    let one : 1 % 2 ^ w ≡ 1 = mod-eq_of_lt (one_lt w (held_some w held)) in
    let v-is : v ≡ window_at w a 1 = is ∙ ap (λ (y : ℕ). record { width = w; highest = a; marks = y }) (sym one) in
    second w a 1 b j v x held v-is (rw (ap (λ (y : Window). y.marks) is) (lit≤ tt)) f
    ∙ ap (λ (y : ℕ). window_at w (max a b) (marks_at (max a b) a y b)) one

alike : (w n m a b : ℕ) → both_at w n m a b ≡ both_at w n m b a
alike w n m a b =
    let top : max (max n a) b ≡ max (max n b) a = omega arith in
    ap (λ (g : ℕ). window_at w g (m * 2 ^ (g - n) + 2 ^ (g - a) + 2 ^ (g - b))) top
    ∙ ap (window_at w (max (max n b) a)) (omega arith)

alike_fresh : (w a b : ℕ) → window_at w (max a b) (1 * 2 ^ (max a b - a) + 2 ^ (max a b - b)) ≡ window_at w (max b a) (1 * 2 ^ (max b a - b) + 2 ^ (max b a - a))
alike_fresh w a b =
    let top : max a b ≡ max b a = omega arith in
    ap (λ (g : ℕ). window_at w g (1 * 2 ^ (g - a) + 2 ^ (g - b))) top ∙ ap (window_at w (max b a)) (omega arith)

pub swapped : Swapped
swapped v a b va ab vb ba i j k l ea eab eb eba =
    let w : ℕ = held_width v.width in
    let n : ℕ = v.highest in
    let m : ℕ = v.marks % 2 ^ w in
    let held : Held w = held_in v.width in
    let small : m < 2 ^ w = mod-lt v.marks (pow_pos w) in
    decide (eqb m 0)
    (λ e. let z : m ≡ 0 = eqb-true m 0 e in
    both_fresh w n m a b i j va ab held z ea eab ∙ alike_fresh w a b ∙ sym (both_fresh w n m b a k l vb ba held z eb eba))
    (λ e. let z : m ≡ 0 → ⊥ = eqb-false m 0 e in
    both w n m a b i j va ab held z small ea eab ∙ alike w n m a b ∙ sym (both w n m b a k l vb ba held z small eb eba))

-- both orders, of width 40
pub either_order : EitherOrder
unfolding accept_by held_width
either_order = (refl, refl, refl, refl)

-- only one order
pub one_order : OneOrder
unfolding accept_by held_width
one_order = (refl, refl, refl, refl)
