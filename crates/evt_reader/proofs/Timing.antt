-- Rows of digits, times, and what closes a line.
use Rattle.evt_reader.proofs.Common.{ℕ, List, [], length, Bool, true, false, cond, Option, Some, None, refl, sym, subst, ◌∙◌, ap, arith, append_assoc, length-append, inl, inr, ne_eqb}
use Rattle.std.proofs.Common.{◌≡◌, ◌≢◌, ◌+◌, ◌-◌, ◌*◌, ◌<◌, ◌≤◌, ◌^◌, ◌∷◌, ◌++◌, ◌==◌, codes, eqb-true, nat_le}
use Rattle.std.proofs.lemmas.Bool.{and_parts, and_from, false≢true, leb-true, le-leb, or_cases}
use Rattle.std.proofs.lemmas.Option.{none-some, same_Some}
use Rattle.std.proofs.lemmas.Str.Parse.{digits_value_short, numerals_by_value, tells_digits}
use Rattle.std.specs.List.{AllByRecursion}
use Rattle.std.specs.Str.Parse.{AllDigits, IsNumeral, digits_value}
use Rattle.evt_text.specs.Forms.{is_digit}
use Rattle.evt_text.specs.Reading.{◌>>=◌, behind_blanks, behind_name, behind_sign, digit_at, number_at}
use Rattle.evt_text.specs.Spelling.{is_blank, AreBlanks}
use Rattle.evt_text.proofs.Cases.{chosen, bind-some, map-some, pair-some}
use Rattle.evt_text.proofs.Digits.{digit_at-is}
use Rattle.evt_text.proofs.Fronts.{behind_sign-is, behind_name-at, behind_name-is}
use Rattle.evt_text.proofs.Respelled.{EndsNumber, blanks-again, digit-test, digits-stop, number-again}
use Rattle.evt_text.proofs.Spelled.{blanks-read, digit-is, number-read}
use Rattle.evt_reader.specs.Files.{IsFlushing, IsBatch, IsTimeLine, SpellsTenths, SpellsTime}
use Rattle.evt_reader.specs.Steps.{are_blanks, behind_digits, behind_gap, behind_row, behind_zeros, closes, if_closed, is_batch, is_closed, is_flushing, only_blanks, seconds_at, tenths_behind, time_at, timed, within_twelve}

-- ---- blanks

pub blanks-test : (bs : List ℕ) → are_blanks bs ≡ true → AreBlanks bs
blanks-test [] e = tt
blanks-test (b ∷ bs) e = let p = and_parts _ _ e in (p.0, blanks-test bs p.1)

pub blanks-pass : (bs : List ℕ) → AreBlanks bs → are_blanks bs ≡ true
blanks-pass [] h = refl
blanks-pass (b ∷ bs) h = and_from _ _ h.0 (blanks-pass bs h.1)

digit-unblank : (b : ℕ) → is_digit b ≡ true → is_blank b ≡ false
digit-unblank b e =
    let p = and_parts _ _ e in
    let low : 48 ≤ b = leb-true _ _ p.0 in
    rw (ne_eqb b 32 (λ k. omega arith), ne_eqb b 9 (λ k. omega arith)) refl

pub unblank-digits : (digits rest : List ℕ) → IsNumeral 10 digits → behind_blanks (digits ++ rest) ≡ digits ++ rest
unblank-digits [] rest a = absurd (let some = a.0 in omega arith)
unblank-digits (d ∷ ds) rest a = rw (digit-unblank d (digit-test d a.1.0)) refl

-- ---- rows of digits

pub behind_digits-more : (text : List ℕ) (digit : ℕ) (others : List ℕ) → digit_at text ≡ Some (digit, others) → behind_digits text ≡ behind_digits others
behind_digits-more text digit others e = let p = digit_at-is text digit others e in rw (p.1, p.2) refl

pub behind_digits-end : (text : List ℕ) → digit_at text ≡ None → behind_digits text ≡ text
behind_digits-end [] e = refl
behind_digits-end (b ∷ bs) e = elim (chosen (is_digit b) _ _ _ e) [ inl h ↦ absurd (let k = h.1 in cc) | inr h ↦ rw h.0 refl ]

pub behind_zeros-more : (text rest : List ℕ) → behind_sign 48 text ≡ Some rest → behind_zeros text ≡ behind_zeros rest
behind_zeros-more text rest e = rw (behind_sign-is 48 text rest e) refl

pub behind_zeros-end : (text : List ℕ) → behind_sign 48 text ≡ None → behind_zeros text ≡ text
behind_zeros-end [] e = refl
behind_zeros-end (b ∷ bs) e = elim (chosen (b == 48) _ _ _ e) [ inl h ↦ absurd (let k = h.1 in cc) | inr h ↦ rw h.0 refl ]

pub sign-shorter : (sign : ℕ) (text rest : List ℕ) → behind_sign sign text ≡ Some rest → length rest < length text
sign-shorter sign text rest e = rw (behind_sign-is sign text rest e) (omega arith)

digits-at : (b : ℕ) (bs : List ℕ) (t : Bool) → is_digit b ≡ t → ((digits : List ℕ) × (bs ≡ digits ++ behind_digits bs) × AllDigits 10 digits)
    → (digits : List ℕ) × (b ∷ bs ≡ digits ++ cond t (behind_digits bs) (b ∷ bs)) × AllDigits 10 digits
digits-at b bs true e h = (b ∷ h.0, ap (λ x. b ∷ x) h.1, ((digit-is b e).1, h.2))
digits-at b bs false e h = ([], refl, tt)

digits-cut : (text : List ℕ) → (digits : List ℕ) × (text ≡ digits ++ behind_digits text) × AllDigits 10 digits
digits-cut [] = ([], refl, tt)
digits-cut (b ∷ bs) = digits-at b bs (is_digit b) refl (digits-cut bs)

row-read : (text rest : List ℕ) → behind_row text ≡ Some rest → (digits : List ℕ) × (text ≡ digits ++ rest) × IsNumeral 10 digits
unfolding behind_row
row-read text rest e =
    let m = map-some (λ d. behind_digits d.1) (digit_at text) rest e in
    let d = digit_at-is text m.0.0 m.0.1 m.1 in
    let c = digits-cut m.0.1 in
    (d.0 ∷ c.0, d.1 ∙ ap (λ x. d.0 ∷ x) (c.1 ∙ ap (λ x. c.0 ++ x) m.2), (omega arith, ((digit-is d.0 d.2).1, c.2)))

digits-over : (digits rest : List ℕ) → AllDigits 10 digits → EndsNumber rest → behind_digits (digits ++ rest) ≡ rest
digits-over [] [] a h = refl
digits-over [] (b ∷ bs) a h = rw h refl
digits-over (d ∷ ds) rest a h = rw (digit-test d a.0) (digits-over ds rest a.1 h)

row-again : (digits rest : List ℕ) → IsNumeral 10 digits → EndsNumber rest → behind_row (digits ++ rest) ≡ Some rest
unfolding behind_row
row-again [] rest a h = absurd (let some = a.0 in omega arith)
row-again (d ∷ ds) rest a h = rw (digit-test d a.1.0, digits-over ds rest a.1.1 h) refl

-- ---- what closes a line

only-some : (o : Option (List ℕ)) → only_blanks o ≡ true → (rest : List ℕ) × (o ≡ Some rest) × AreBlanks rest
only-some None e = absurd (false≢true e)
only-some (Some rest) e = (rest, refl, blanks-test rest e)

closes-some : (o : Option (List ℕ)) → closes o ≡ true → (rest : List ℕ) × (o ≡ Some rest) × (is_closed rest ≡ true)
closes-some None e = absurd (false≢true e)
closes-some (Some rest) e = (rest, refl, e)

closed-read : (text : List ℕ) → is_closed text ≡ true → (behind end : List ℕ) × (text ≡ behind ++ 41 ∷ end) × AreBlanks behind × AreBlanks end
unfolding is_closed
closed-read text e =
    let b = blanks-read text in
    let p = only-some (behind_sign 41 (behind_blanks text)) e in
    (b.0, p.0, b.1 ∙ ap (λ x. b.0 ++ x) (behind_sign-is 41 (behind_blanks text) p.0 p.1), b.2, p.2)

closed-again : (behind end : List ℕ) → AreBlanks behind → AreBlanks end → is_closed (behind ++ 41 ∷ end) ≡ true
unfolding is_closed
closed-again behind end a b = ap (λ x. only_blanks (behind_sign 41 x)) (blanks-again behind (41 ∷ end) a) ∙ blanks-pass end b

blank-ends : (b : ℕ) → is_blank b ≡ true → is_digit b ≡ false
blank-ends b e = elim (or_cases (b == 32) (b == 9) e) [ inl g ↦ rw (eqb-true b 32 g) refl | inr g ↦ rw (eqb-true b 9 g) refl ]

blank-no_point : (b : ℕ) → is_blank b ≡ true → (b == 46) ≡ false
blank-no_point b e = elim (or_cases (b == 32) (b == 9) e) [ inl g ↦ rw (eqb-true b 32 g) refl | inr g ↦ rw (eqb-true b 9 g) refl ]

closing-ends : (behind end : List ℕ) → AreBlanks behind → EndsNumber (behind ++ 41 ∷ end)
closing-ends [] end h = refl
closing-ends (b ∷ bs) end h = blank-ends b h.0

closing-point : (behind end : List ℕ) → AreBlanks behind → behind_sign 46 (behind ++ 41 ∷ end) ≡ None
closing-point [] end h = refl
closing-point (b ∷ bs) end h = rw (blank-no_point b h.0) refl

blanks-end : (end : List ℕ) → AreBlanks end → EndsNumber end
blanks-end [] h = tt
blanks-end (b ∷ bs) h = blank-ends b h.0

-- a name, blanks, a piece and what follows it
pieced : (name rest inside before text piece end : List ℕ) → rest ≡ name ++ inside → inside ≡ before ++ text → text ≡ piece ++ end → rest ≡ name ++ (before ++ (piece ++ end))
pieced name rest inside before text piece end e f g = e ∙ ap (λ x. name ++ x) (f ∙ ap (λ x. before ++ x) g)

closed_by : (name rest before piece q behind end : List ℕ) → rest ≡ name ++ (before ++ (piece ++ q)) → q ≡ behind ++ 41 ∷ end → rest ≡ name ++ (before ++ (piece ++ (behind ++ 41 ∷ end)))
closed_by name rest before piece q behind end e f = e ∙ ap (λ x. name ++ (before ++ (piece ++ x))) f

-- ---- lines of flushing

pub flushing-read : (rest : List ℕ) → is_flushing rest ≡ true → IsFlushing rest
unfolding is_flushing
flushing-read rest e =
    let p = closes-some (behind_name (codes "&FLUSHING(") rest >>= λ inside. behind_row (behind_blanks inside)) e in
    let r = bind-some (behind_name (codes "&FLUSHING(") rest) (λ inside. behind_row (behind_blanks inside)) p.0 p.1 in
    let b = blanks-read r.0 in
    let d = row-read (behind_blanks r.0) p.0 r.2 in
    let c = closed-read p.0 p.2 in
    let whole = pieced (codes "&FLUSHING(") rest r.0 b.0 (behind_blanks r.0) d.0 p.0 (behind_name-is (codes "&FLUSHING(") rest r.0 r.1) b.1 d.1 in
    (b.0, d.0, c.0, c.1, closed_by (codes "&FLUSHING(") rest b.0 d.0 p.0 c.0 c.1 whole c.2, b.2, d.2, c.3, c.4)

flushing-inside : (inside q : List ℕ) → behind_row (behind_blanks inside) ≡ Some q → is_closed q ≡ true → is_flushing (codes "&FLUSHING(" ++ inside) ≡ true
unfolding is_flushing
flushing-inside inside q r c = ap (λ o. closes (o >>= λ i. behind_row (behind_blanks i))) (behind_name-at (codes "&FLUSHING(") inside) ∙ ap closes r ∙ c

pub flushing-again : (rest : List ℕ) → IsFlushing rest → is_flushing rest ≡ true
flushing-again rest (before, digits, behind, end, e, a, d, b, c) =
    let last = behind ++ 41 ∷ end in
    let row : behind_row (behind_blanks (before ++ (digits ++ (behind ++ 41 ∷ end)))) ≡ Some (behind ++ 41 ∷ end)
    = ap behind_row (blanks-again before (digits ++ (behind ++ 41 ∷ end)) a ∙ unblank-digits digits (behind ++ 41 ∷ end) d) ∙ row-again digits (behind ++ 41 ∷ end) d (closing-ends behind end b) in
    ap is_flushing e ∙ flushing-inside (before ++ (digits ++ (behind ++ 41 ∷ end))) (behind ++ 41 ∷ end) row (closed-again behind end b c)

-- ---- lines of batches

gap-read : (text rest : List ℕ) → behind_gap text ≡ Some rest → (before : List ℕ) × (text ≡ before ++ rest) × (before ≢ []) × AreBlanks before
gap-read [] rest e = absurd (none-some _ e)
gap-read (b ∷ bs) rest e = elim (chosen (is_blank b) _ _ _ e) [
  | inl h ↦
      let r = blanks-read bs in
      (b ∷ r.0, ap (λ x. b ∷ x) (r.1 ∙ ap (λ x. r.0 ++ x) (same_Some _ _ h.1)), (λ k. let n = ap length k in omega arith), (h.0, r.2))
  | inr h ↦ absurd (none-some _ h.1)
]

gap-none-at : (b : ℕ) (bs : List ℕ) (t : Bool) → length (cond t (behind_blanks bs) (b ∷ bs)) ≡ length (b ∷ bs) → cond t (Some (behind_blanks bs)) None ≡ None
gap-none-at b bs true e = let r = blanks-read bs in absurd (let size = ap length r.1 in omega (arith, size, e, length-append r.0 (behind_blanks bs)))
gap-none-at b bs false e = refl

-- nothing was passed, so no blank is in front
pub gap-none : (text : List ℕ) → length (behind_blanks text) ≡ length text → behind_gap text ≡ None
gap-none [] e = refl
gap-none (b ∷ bs) e = gap-none-at b bs (is_blank b) e

gap-again : (before text : List ℕ) → before ≢ [] → AreBlanks before → behind_blanks text ≡ text → behind_gap (before ++ text) ≡ Some text
gap-again [] text some a u = absurd (some refl)
gap-again (b ∷ bs) text some a u = rw a.0 (ap Some (blanks-again bs text a.1 ∙ u))

pub batch-read : (rest : List ℕ) → is_batch rest ≡ true → IsBatch rest
unfolding is_batch
batch-read rest e =
    let p = only-some (behind_name (codes "BATCH") rest >>= λ gap. behind_gap gap >>= behind_row) e in
    let r = bind-some (behind_name (codes "BATCH") rest) (λ gap. behind_gap gap >>= behind_row) p.0 p.1 in
    let s = bind-some (behind_gap r.0) behind_row p.0 r.2 in
    let g = gap-read r.0 s.0 s.1 in
    let d = row-read s.0 p.0 s.2 in
    let whole = pieced (codes "BATCH") rest r.0 g.0 s.0 d.0 p.0 (behind_name-is (codes "BATCH") rest r.0 r.1) g.1 d.1 in
    (g.0, d.0, p.0, whole, g.2, g.3, d.2, p.2)

batch-inside : (gap digits q : List ℕ) → behind_gap gap ≡ Some digits → behind_row digits ≡ Some q → are_blanks q ≡ true → is_batch (codes "BATCH" ++ gap) ≡ true
unfolding is_batch
batch-inside gap digits q g r c =
    ap (λ o. only_blanks (o >>= λ x. behind_gap x >>= behind_row)) (behind_name-at (codes "BATCH") gap) ∙ ap (λ o. only_blanks (o >>= behind_row)) g ∙ ap only_blanks r ∙ c

pub batch-again : (rest : List ℕ) → IsBatch rest → is_batch rest ≡ true
batch-again rest (before, digits, end, e, some, a, d, b) =
    ap is_batch e
    ∙ batch-inside (before ++ (digits ++ end)) (digits ++ end) end (gap-again before (digits ++ end) some a (unblank-digits digits end d)) (row-again digits end d (blanks-end end b)) (blanks-pass end b)

-- ---- times

twelve-passed : (text : List ℕ) (read : ℕ × List ℕ) (n : ℕ) (q : List ℕ) → within_twelve text read ≡ Some (n, q) → (read ≡ (n, q)) × (length text ≤ length q + 12)
twelve-passed text read n q e = elim (chosen (nat_le (length text) (length read.1 + 12)) _ _ _ e) [
  | inl h ↦ (let p : read ≡ (n, q) = same_Some _ _ h.1 in (p, rw (ap (λ x. x.1) p) at (leb-true _ _ h.0)))
  | inr h ↦ absurd (none-some _ h.1)
]

twelve-pass : (text : List ℕ) (n : ℕ) (q : List ℕ) → length text ≤ length q + 12 → within_twelve text (n, q) ≡ Some (n, q)
twelve-pass text n q le = rw (le-leb _ _ le) refl

seconds-read : (text : List ℕ) (n : ℕ) (q : List ℕ) → seconds_at text ≡ Some (n, q)
    → (digits : List ℕ) × (text ≡ digits ++ q) × IsNumeral 10 digits × (n ≡ digits_value 10 digits) × (length digits ≤ 12)
unfolding seconds_at
seconds-read text n q e =
    let r = bind-some (number_at 999999999999 text) (within_twelve text) (n, q) e in
    let w = twelve-passed text r.0 n q r.2 in
    let d = number-read 999999999999 text n q (omega arith) (r.1 ∙ ap Some w.0) in
    let size = ap length d.1 in
    let most = w.1 in
    (d.0, d.1, d.2, d.3, omega (arith, size, most, length-append d.0 q))

seconds-again : (digits q : List ℕ) → IsNumeral 10 digits → length digits ≤ 12 → EndsNumber q → seconds_at (digits ++ q) ≡ Some (digits_value 10 digits, q)
unfolding seconds_at
seconds-again digits q a short h =
    let below : digits_value 10 digits < 10 ^ 12 = digits_value_short (numerals_by_value (AllDigits 10) tells_digits) digits 12 a.1 short in
    let small : digits_value 10 digits ≤ 999999999999 = omega arith in
    let reads : number_at 999999999999 (digits ++ q) ≡ Some (digits_value 10 digits, q) = number-again 999999999999 digits q a small ∙ ap Some (digits-stop 999999999999 (digits_value 10 digits) q h) in
    ap (λ o. o >>= within_twelve (digits ++ q)) reads ∙ twelve-pass (digits ++ q) (digits_value 10 digits) q (omega (arith, length-append digits q))

zeros-at : (b : ℕ) (bs : List ℕ) (t : Bool) → (b == 48) ≡ t → ((zeros : List ℕ) × (bs ≡ zeros ++ behind_zeros bs) × AllByRecursion (λ z. z ≡ 48) zeros)
    → (zeros : List ℕ) × (b ∷ bs ≡ zeros ++ cond t (behind_zeros bs) (b ∷ bs)) × AllByRecursion (λ z. z ≡ 48) zeros
zeros-at b bs true e h = (b ∷ h.0, ap (λ x. b ∷ x) h.1, (eqb-true b 48 e, h.2))
zeros-at b bs false e h = ([], refl, tt)

zeros-cut : (text : List ℕ) → (zeros : List ℕ) × (text ≡ zeros ++ behind_zeros text) × AllByRecursion (λ z. z ≡ 48) zeros
zeros-cut [] = ([], refl, tt)
zeros-cut (b ∷ bs) = zeros-at b bs (b == 48) refl (zeros-cut bs)

no_zero : (b : ℕ) → is_digit b ≡ false → (b == 48) ≡ false
no_zero b h = ne_eqb b 48 (λ k. false≢true (sym h ∙ ap is_digit k))

zeros-over : (zeros rest : List ℕ) → AllByRecursion (λ z. z ≡ 48) zeros → EndsNumber rest → behind_zeros (zeros ++ rest) ≡ rest
zeros-over [] [] a h = refl
zeros-over [] (b ∷ bs) a h = rw (no_zero b h) refl
zeros-over (z ∷ zs) rest a h = rw a.0 (zeros-over zs rest a.1 h)

tenths-read : (s : ℕ) (text : List ℕ) (n : ℕ) (q : List ℕ) (o : Option (List ℕ)) → behind_sign 46 text ≡ o → tenths_behind s text o ≡ Some (n, q)
    → (spelling : List ℕ) × (tenths : ℕ) × (text ≡ spelling ++ q) × SpellsTenths tenths spelling × (n ≡ s * 10 + tenths)
tenths-read s text n q None is e = let p = pair-some _ _ _ _ e in let value = p.0 in ([], 0, p.1, inl (refl, refl), omega arith)
tenths-read s text n q (Some f) is e =
    let m = map-some (λ d. (s * 10 + d.0, behind_zeros d.1)) (digit_at f) (n, q) e in
    let d = digit_at-is f m.0.0 m.0.1 m.1 in
    let z = zeros-cut m.0.1 in
    let whole = behind_sign-is 46 text f is ∙ ap (λ x. 46 ∷ x) (d.1 ∙ ap (λ x. d.0 ∷ x) (z.1 ∙ ap (λ x. z.0 ++ x) (ap (λ x. x.1) m.2))) in
    (46 ∷ d.0 ∷ z.0, m.0.0, whole, inr (d.0, z.0, refl, d.2, z.2, d.3), sym (ap (λ x. x.0) m.2))

time-read : (text : List ℕ) (n : ℕ) (q : List ℕ) → time_at text ≡ Some (n, q) → (spelling : List ℕ) × (text ≡ spelling ++ q) × SpellsTime n spelling
unfolding time_at
time-read text n q e =
    let r = bind-some (seconds_at text) (λ s. tenths_behind s.0 s.1 (behind_sign 46 s.1)) (n, q) e in
    let s = seconds-read text r.0.0 r.0.1 r.1 in
    let t = tenths-read r.0.0 r.0.1 n q (behind_sign 46 r.0.1) refl r.2 in
    (s.0 ++ t.0, s.1 ∙ ap (λ x. s.0 ++ x) t.2 ∙ sym (append_assoc s.0 t.0 q), (s.0, t.0, t.1, refl, s.2, s.4, t.3, t.4 ∙ ap (λ x. x * 10 + t.1) s.3))

tenths-end : (tenths : ℕ) (spelling q : List ℕ) → SpellsTenths tenths spelling → EndsNumber q → EndsNumber (spelling ++ q)
tenths-end tenths spelling q (inl (e, t)) h = rw e h
tenths-end tenths spelling q (inr (digit, zeros, e, d, z, t)) h = rw e refl

point-digit : (s digit : ℕ) (zeros q : List ℕ) → is_digit digit ≡ true → behind_zeros (zeros ++ q) ≡ q → tenths_behind s (46 ∷ digit ∷ (zeros ++ q)) (Some (digit ∷ (zeros ++ q))) ≡ Some (s * 10 + (digit - 48), q)
point-digit s digit zeros q d z = rw (d, z) refl

tenths-again : (s tenths : ℕ) (spelling q : List ℕ) → SpellsTenths tenths spelling → EndsNumber q → behind_sign 46 q ≡ None
    → tenths_behind s (spelling ++ q) (behind_sign 46 (spelling ++ q)) ≡ Some (s * 10 + tenths, q)
tenths-again s tenths spelling q (inl (e, t)) h p = rw (e, t, p) (ap (λ n. Some (n, q)) (let same : s * 10 ≡ s * 10 + 0 = omega arith in same))
tenths-again s tenths spelling q (inr (digit, zeros, e, d, z, t)) h p = rw (e, t) (point-digit s digit zeros q d (zeros-over zeros q z h))

time-again : (n : ℕ) (spelling q : List ℕ) → SpellsTime n spelling → EndsNumber q → behind_sign 46 q ≡ None → time_at (spelling ++ q) ≡ Some (n, q)
unfolding time_at
time-again n spelling q (seconds, behind, tenths, e, num, short, t, value) h p =
    ap time_at (ap (λ x. x ++ q) e ∙ append_assoc seconds behind q)
    ∙ ap (λ o. o >>= λ s. tenths_behind s.0 s.1 (behind_sign 46 s.1)) (seconds-again seconds (behind ++ q) num short (tenths-end tenths behind q t h))
    ∙ tenths-again (digits_value 10 seconds) tenths behind q t h p ∙ ap (λ m. Some (m, q)) (sym value)

-- ---- lines of times

closed-passed : (read : ℕ × List ℕ) (n : ℕ) → if_closed read ≡ Some n → (read.0 ≡ n) × (is_closed read.1 ≡ true)
closed-passed read n e = elim (chosen (is_closed read.1) _ _ _ e) [ inl h ↦ (same_Some _ _ h.1, h.0) | inr h ↦ absurd (none-some _ h.1) ]

pub timed-read : (rest : List ℕ) (n : ℕ) → timed rest ≡ Some n → IsTimeLine n rest
unfolding timed
timed-read rest n e =
    let r = bind-some (behind_name (codes "&TIME(") rest) (λ inside. time_at (behind_blanks inside) >>= if_closed) n e in
    let s = bind-some (time_at (behind_blanks r.0)) if_closed n r.2 in
    let c = closed-passed s.0 n s.2 in
    let b = blanks-read r.0 in
    let t = time-read (behind_blanks r.0) s.0.0 s.0.1 s.1 in
    let d = closed-read s.0.1 c.1 in
    let whole = pieced (codes "&TIME(") rest r.0 b.0 (behind_blanks r.0) t.0 s.0.1 (behind_name-is (codes "&TIME(") rest r.0 r.1) b.1 t.1 in
    (b.0, t.0, d.0, d.1, closed_by (codes "&TIME(") rest b.0 t.0 s.0.1 d.0 d.1 whole d.2, b.2, subst (λ m. SpellsTime m t.0) c.0 t.2, d.3, d.4)

timed-inside : (inside : List ℕ) (n : ℕ) (q : List ℕ) → time_at (behind_blanks inside) ≡ Some (n, q) → is_closed q ≡ true → timed (codes "&TIME(" ++ inside) ≡ Some n
unfolding timed
timed-inside inside n q t c =
    ap (λ o. o >>= λ i. time_at (behind_blanks i) >>= if_closed) (behind_name-at (codes "&TIME(") inside) ∙ ap (λ o. o >>= if_closed) t ∙ ap (λ b. cond b (Some n) None) c

unblank-time : (n : ℕ) (spelling q : List ℕ) → SpellsTime n spelling → behind_blanks (spelling ++ q) ≡ spelling ++ q
unblank-time n spelling q (seconds, behind, tenths, e, num, short, t, value) =
    let whole : spelling ++ q ≡ seconds ++ (behind ++ q) = ap (λ x. x ++ q) e ∙ append_assoc seconds behind q in
    ap behind_blanks whole ∙ unblank-digits seconds (behind ++ q) num ∙ sym whole

pub timed-again : (rest : List ℕ) (n : ℕ) → IsTimeLine n rest → timed rest ≡ Some n
timed-again rest n (before, spelling, behind, end, e, a, t, b, c) =
    let time : time_at (behind_blanks (before ++ (spelling ++ (behind ++ 41 ∷ end)))) ≡ Some (n, behind ++ 41 ∷ end)
    = ap time_at (blanks-again before (spelling ++ (behind ++ 41 ∷ end)) a ∙ unblank-time n spelling (behind ++ 41 ∷ end) t)
    ∙ time-again n spelling (behind ++ 41 ∷ end) t (closing-ends behind end b) (closing-point behind end b) in
    ap timed e ∙ timed-inside (before ++ (spelling ++ (behind ++ 41 ∷ end))) n (behind ++ 41 ∷ end) time (closed-again behind end b c)
