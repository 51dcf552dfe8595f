-- What a line says, and that it says no more than one thing.
use Rattle.evt_reader.proofs.Common.{ℕ, ℤ, pos, List, [], length, take, drop, Bool, true, false, cond, Option, Some, None, Result, Ok, Err, refl, sym, subst, ◌∙◌, ap, arith, append_assoc, length-append, inl, inr, ne_eqb, IsErrAnd, err_from_is_err_and, EventShape, Value, Item, Event, Time, AreEventTypes, Spells, IsLine, HasName, LacksName}
use Rattle.std.proofs.Common.{◌≡◌, ◌-◌, ◌≤◌, ◌∷◌, ◌++◌, ◌≢◌, ◌&&◌, ◌==◌, ◌||◌, ◌<ℤ◌, ◌≤ℤ◌, nat_le, eqb-true, codes, get_or}
use Rattle.std.specs.List.{AllByRecursion, slice_range}
use Rattle.std.specs.Str.{IsUtf8}
use Rattle.std.specs.Str.Parse.{IsNumeral}
use Rattle.std.proofs.lemmas.Bool.{or_cases, or_left, or_right, and_parts, false≢true, leb-true}
use Rattle.std.proofs.lemmas.Int.{ints}
use Rattle.std.proofs.lemmas.Option.{none-some, same_Some}
use Rattle.evt_text.specs.declared.fault.TextFault.{TextFault}
use Rattle.evt_text.specs.declared.fault.TextFault.TheVariants.{NoValue, Memory}
use Rattle.std.proofs.lemmas.List.{take_at}
use Rattle.std.proofs.lemmas.List.Folds.{drop_split}
use Rattle.epl_values.specs.declared.shape.Shape.TheVariants as shape
use Rattle.evt_text.specs.Forms.{is_letter, is_digit, IsName, HasNames}
use Rattle.evt_text.specs.Spelling.{is_blank, AreBlanks, SpellsAt, SpellsString, FindsValue}
use Rattle.evt_text.specs.Reading.{◌>>=◌, Reads, behind_blanks, behind_sign, string_at}
use Rattle.evt_text.proofs.Cases.{bind-some, pair-some}
use Rattle.evt_text.proofs.Fronts.{behind_sign-is}
use Rattle.evt_text.proofs.Spelled.{blanks-read, string-read}
use Rattle.evt_text.proofs.Respelled.{blanks-again, digit-test, string-again}
use Rattle.evt_text.proofs.Renested.{name-of}
use Rattle.evt_text.proofs.Events.{EndsName, event-same, event-name, event-opens}
use Rattle.evt_reader.specs.Files.{IsEmpty, IsBatch, IsNothing, IsTimeLine, IsEvent, IsChannelled, IsSent, Says}
use Rattle.evt_reader.specs.Steps.{name_front, FindsEvent, FindsSent, FindsMeaning, SaysTime, are_blanks, is_slash, is_empty, is_flushing, is_batch, is_nothing, is_quote, timed, channel_at}
use Rattle.evt_reader.proofs.Timing.{blanks-test, blanks-pass, unblank-digits, flushing-read, flushing-again, batch-read, batch-again, timed-read, timed-again}

-- the end of a line
slash-at : (rest : List ℕ) → is_slash rest ≡ true → (more : List ℕ) × (rest ≡ 47 ∷ more)
slash-at [] e = absurd (false≢true e)
slash-at (b ∷ bs) e = (bs, ap (λ x. x ∷ bs) (eqb-true b 47 e))

empty-test : (rest : List ℕ) → is_empty rest ≡ true → IsEmpty rest
empty-test [] e = inl refl
empty-test (a ∷ rest) e = elim (or_cases (a == 35) (a == 47 && is_slash rest) e) [
  | inl h ↦ inr (rest, inl (ap (λ x. x ∷ rest) (eqb-true a 35 h)))
  | inr h ↦ (let p = and_parts (a == 47) (is_slash rest) h in let m = slash-at rest p.1 in inr (m.0, inr (ap (λ x. x ∷ rest) (eqb-true a 47 p.0) ∙ ap (λ x. 47 ∷ x) m.1)))
]

empty-pass : (rest : List ℕ) → IsEmpty rest → is_empty rest ≡ true
empty-pass rest (inl e) = rw e refl
empty-pass rest (inr (more, inl e)) = rw e refl
empty-pass rest (inr (more, inr e)) = rw e refl

pub nothing-test : (rest : List ℕ) → is_nothing rest ≡ true → IsNothing rest
unfolding is_nothing
nothing-test rest e = elim (or_cases (is_empty rest) (is_flushing rest || is_batch rest) e) [
  | inl h ↦ inl (empty-test rest h)
  | inr h ↦ elim (or_cases (is_flushing rest) (is_batch rest) h) [ inl g ↦ inr (inl (flushing-read rest g)) | inr g ↦ inr (inr (batch-read rest g)) ]
]

pub nothing-pass : (rest : List ℕ) → IsNothing rest → is_nothing rest ≡ true
unfolding is_nothing
nothing-pass rest (inl h) = or_left (is_empty rest) (is_flushing rest || is_batch rest) (empty-pass rest h)
nothing-pass rest (inr (inl h)) = or_right (is_empty rest) (is_flushing rest || is_batch rest) (or_left (is_flushing rest) (is_batch rest) (flushing-again rest h))
nothing-pass rest (inr (inr h)) = or_right (is_empty rest) (is_flushing rest || is_batch rest) (or_right (is_flushing rest) (is_batch rest) (batch-again rest h))

-- names
name-bytes : (name tail : List ℕ) → AllByRecursion (λ c. (is_letter c || is_digit c) ≡ true) name → EndsName tail → name_front (name ++ tail) ≡ name
name-bytes [] [] a h = absurd h
name-bytes [] (b ∷ bs) a h = rw h refl
name-bytes (n ∷ ns) tail a h = rw (a.0, name-bytes ns tail a.1 h) refl

letter-byte : (b : ℕ) → is_letter b ≡ true → (is_letter b || is_digit b) ≡ true
letter-byte b e = or_left (is_letter b) (is_digit b) e

name-whole : (name tail : List ℕ) → IsName name → EndsName tail → name_front (name ++ tail) ≡ name
name-whole [] tail n h = absurd n
name-whole (b ∷ bs) tail n h = name-bytes (b ∷ bs) tail (letter-byte b n.0, n.1) h

ends-front : (tail behind : List ℕ) → EndsName tail → EndsName (tail ++ behind)
ends-front [] behind h = absurd h
ends-front (b ∷ bs) behind h = h

-- an event names its type
pub named : (types : List EventShape) → HasNames types → (rest spelling behind : List ℕ) (n : ℕ) (x : Value) → rest ≡ spelling ++ behind → Spells types (shape.Event n) x spelling → HasName types (name_front rest) n
named types names rest spelling behind n x e h =
    let s = event-name types n x spelling h in
    let whole : rest ≡ s.0.name ++ (s.1 ++ behind) = e ∙ ap (λ y. y ++ behind) s.3 ∙ append_assoc s.0.name s.1 behind in
    (s.0, s.2, sym (ap name_front whole ∙ name-whole s.0.name (s.1 ++ behind) (name-of types n s.0 names s.2) (ends-front s.1 behind s.4)))

same-type : (types : List EventShape) → AreEventTypes types → (name : List ℕ) (n m : ℕ) → HasName types name n → HasName types name m → n ≡ m
same-type types ok name n m h k = ok.distinct n m h.0 k.0 h.1 k.1 (h.2 ∙ sym k.2)

pub event-found : (types : List EventShape) (rest : List ℕ) (n : ℕ) (x : Value) (end : ℕ) → SpellsAt types (shape.Event n) rest 0 x end → are_blanks (drop end rest) ≡ true → IsEvent types rest x
event-found types rest n x end h b = (slice_range rest 0 end, drop end rest, drop_split rest 0 end h.0, blanks-test (drop end rest) b, n, h.2)

same-event : (types : List EventShape) → AreEventTypes types → (rest : List ℕ) (n m : ℕ) (x y : Value) (spelling behind spelling' behind' : List ℕ) → rest ≡ spelling ++ behind → Spells types (shape.Event n) x spelling
    → rest ≡ spelling' ++ behind' → Spells types (shape.Event m) y spelling' → (x ≡ y) × (behind ≡ behind')
same-event types ok rest n m x y spelling behind spelling' behind' e h f k =
    let same : n ≡ m = same-type types ok (name_front rest) n m (named types ok.names rest spelling behind n x e h) (named types ok.names rest spelling' behind' m y f k) in
    event-same types ok.names ok.fields ok.no_cycle m x y spelling behind spelling' behind' (rw same at h) k (sym e ∙ f)

pub event-not_blank : (types : List EventShape) → AreEventTypes types → (rest : List ℕ) (n : ℕ) (x : Value) (end : ℕ) → SpellsAt types (shape.Event n) rest 0 x end → are_blanks (drop end rest) ≡ false
    → (y : Value) → IsEvent types rest y → ⊥
event-not_blank types ok rest n x end h b y (spelling, behind, e, a, m, k) =
    let s = same-event types ok rest n m x y (slice_range rest 0 end) (drop end rest) spelling behind (drop_split rest 0 end h.0) h.2 e k in
    false≢true (sym b ∙ ap are_blanks s.1 ∙ blanks-pass behind a)

pub event-no_value : (types : List EventShape) → AreEventTypes types → (rest : List ℕ) (n : ℕ) → HasName types (name_front rest) n → ((x : Value) (end : ℕ) → SpellsAt types (shape.Event n) rest 0 x end → ⊥)
    → (y : Value) → IsEvent types rest y → ⊥
event-no_value types ok rest n name none y (spelling, behind, e, a, m, k) =
    let same : n ≡ m = same-type types ok (name_front rest) n m name (named types ok.names rest spelling behind m y e k) in
    let part : slice_range rest 0 (length spelling) ≡ spelling = ap (take (length spelling - 0)) e ∙ take_at spelling behind (length spelling - 0) (omega arith) in
    none y (length spelling) (omega arith, omega (arith, ap length e, length-append spelling behind), rw (same, part) k)

pub event-no_type : (types : List EventShape) → AreEventTypes types → (rest : List ℕ) → LacksName types (name_front rest) → (y : Value) → IsEvent types rest y → ⊥
event-no_type types ok rest none y (spelling, behind, e, a, m, k) = none m (named types ok.names rest spelling behind m y e k)

-- behind the blanks in front
letter-range : (b : ℕ) → is_letter b ≡ true → 65 ≤ b
letter-range b e = elim (or_cases (nat_le 65 b && nat_le b 90 || nat_le 97 b && nat_le b 122) (b == 95) e) [
  | inl h ↦ elim (or_cases (nat_le 65 b && nat_le b 90) (nat_le 97 b && nat_le b 122) h) [
    | inl g ↦ (let p = and_parts _ _ g in leb-true 65 b p.0)
    | inr g ↦ (let p = and_parts _ _ g in let low = leb-true 97 b p.0 in omega arith)
  ]
  | inr h ↦ (let k = eqb-true b 95 h in omega arith)
]

letter-stands : (b : ℕ) (bs : List ℕ) → is_letter b ≡ true → is_empty (b ∷ bs) ≡ false
letter-stands b bs e =
    let low = letter-range b e in
    rw (ne_eqb b 35 (λ k. omega arith), ne_eqb b 47 (λ k. omega arith)) refl

letter-no_flushing : (b : ℕ) (bs : List ℕ) → is_letter b ≡ true → is_flushing (b ∷ bs) ≡ false
unfolding is_flushing
letter-no_flushing b bs e =
    let low = letter-range b e in
    rw (ne_eqb b 38 (λ k. omega arith)) refl

letter-no_time : (b : ℕ) (bs : List ℕ) → is_letter b ≡ true → timed (b ∷ bs) ≡ None
unfolding timed
letter-no_time b bs e =
    let low = letter-range b e in
    rw (ne_eqb b 38 (λ k. omega arith)) refl

letter-no_quote : (b : ℕ) (bs : List ℕ) → is_letter b ≡ true → is_quote (b ∷ bs) ≡ false
letter-no_quote b bs e = let low = letter-range b e in ne_eqb b 34 (λ k. omega arith)

letter-unblank : (b : ℕ) → is_letter b ≡ true → is_blank b ≡ false
letter-unblank b e =
    let low = letter-range b e in
    rw (ne_eqb b 32 (λ k. omega arith), ne_eqb b 9 (λ k. omega arith)) refl

-- a letter stands in front of an event
abbrev OpensLetter : List ℕ → Type 0
OpensLetter rest = (b : ℕ) × (bs : List ℕ) × (rest ≡ b ∷ bs) × (is_letter b ≡ true)

name-letter : (name tail : List ℕ) → IsName name → OpensLetter (name ++ tail)
name-letter [] tail h = absurd h
name-letter (b ∷ bs) tail h = (b, bs ++ tail, refl, h.0)

event-letter : (types : List EventShape) → HasNames types → (rest : List ℕ) (x : Value) → IsEvent types rest x → OpensLetter rest
event-letter types names rest x (spelling, behind, e, a, n, k) =
    let s = event-name types n x spelling k in
    let whole : rest ≡ s.0.name ++ (s.1 ++ behind) = e ∙ ap (λ y. y ++ behind) s.3 ∙ append_assoc s.0.name s.1 behind in
    subst OpensLetter (sym whole) (name-letter s.0.name (s.1 ++ behind) (name-of types n s.0 names s.2))

event-no_quote : (types : List EventShape) → HasNames types → (rest : List ℕ) (x : Value) → IsEvent types rest x → is_quote rest ≡ false
event-no_quote types names rest x h = let l = event-letter types names rest x h in ap is_quote l.2 ∙ letter-no_quote l.0 l.1 l.3

pub event-no_time : (types : List EventShape) → HasNames types → (rest : List ℕ) (x : Value) → IsEvent types rest x → timed rest ≡ None
event-no_time types names rest x h = let l = event-letter types names rest x h in ap timed l.2 ∙ letter-no_time l.0 l.1 l.3

blanks-ends : (blanks rest : List ℕ) → AreBlanks blanks → EndsName rest → EndsName (blanks ++ rest)
blanks-ends [] rest h e = e
blanks-ends (b ∷ bs) rest h e = elim (or_cases (b == 32) (b == 9) h.0) [ inl g ↦ rw (eqb-true b 32 g) refl | inr g ↦ rw (eqb-true b 9 g) refl ]

gap-ends : (before rest : List ℕ) → before ≢ [] → AreBlanks before → EndsName (before ++ rest)
gap-ends [] rest some h = absurd (some refl)
gap-ends (b ∷ bs) rest some h = elim (or_cases (b == 32) (b == 9) h.0) [ inl g ↦ rw (eqb-true b 32 g) refl | inr g ↦ rw (eqb-true b 9 g) refl ]

batch-name : IsName (codes "BATCH")
batch-name = (refl, (refl, (refl, (refl, (refl, tt)))))

bracket-digits : (more digits end : List ℕ) → IsNumeral 10 digits → 40 ∷ more ≡ digits ++ end → ⊥
bracket-digits more [] end d e = let some = d.0 in omega arith
bracket-digits more (c ∷ cs) end d e = let first : 40 ≡ c = ap (λ xs. get_or xs 0 0) e in false≢true (ap is_digit first ∙ digit-test c d.1.0)

no-batch : (rest : List ℕ) (t : Bool) → is_batch rest ≡ t → (IsBatch rest → ⊥) → t ≡ false
no-batch rest true e none = absurd (none (batch-read rest e))
no-batch rest false e none = refl

-- a batch's name and its digits, and an event's name and its bracket, don't go together
same-tail : (name a b : List ℕ) → name ++ a ≡ name ++ b → a ≡ b
same-tail [] a b e = e
same-tail (n ∷ ns) a b e = same-tail ns a b (ap (drop 1) e)

event-no_batch : (types : List EventShape) → HasNames types → (rest : List ℕ) (x : Value) → IsEvent types rest x → IsBatch rest → ⊥
event-no_batch types names rest x (spelling, behind, e, a, n, k) (before, digits, end, f, some, c, d, g) =
    let s = event-opens types n x spelling k in
    let whole : rest ≡ s.0.name ++ (s.1 ++ (40 ∷ (s.2 ++ behind))) = e ∙ ap (λ y. y ++ behind) s.4 ∙ simp append_assoc in
    let event_front : name_front rest ≡ s.0.name = ap name_front whole ∙ name-whole s.0.name (s.1 ++ (40 ∷ (s.2 ++ behind))) (name-of types n s.0 names s.3) (blanks-ends s.1 (40 ∷ (s.2 ++ behind)) s.5 refl) in
    let batch_front : name_front rest ≡ codes "BATCH" = ap name_front f ∙ name-whole (codes "BATCH") (before ++ (digits ++ end)) batch-name (gap-ends before (digits ++ end) some c) in
    let same : s.1 ++ (40 ∷ (s.2 ++ behind)) ≡ before ++ (digits ++ end)
    = same-tail (codes "BATCH") (s.1 ++ (40 ∷ (s.2 ++ behind))) (before ++ (digits ++ end)) (ap (λ y. y ++ (s.1 ++ (40 ∷ (s.2 ++ behind)))) (sym batch_front ∙ event_front) ∙ sym whole ∙ f) in
    bracket-digits (s.2 ++ behind) digits end d (sym (blanks-again s.1 (40 ∷ (s.2 ++ behind)) s.5) ∙ ap behind_blanks same ∙ blanks-again before (digits ++ end) c ∙ unblank-digits digits end d)

event-something : (types : List EventShape) → HasNames types → (rest : List ℕ) (x : Value) → IsEvent types rest x → is_nothing rest ≡ false
unfolding is_nothing
event-something types names rest x h =
    let l = event-letter types names rest x h in
    rw (ap is_empty l.2 ∙ letter-stands l.0 l.1 l.3, ap is_flushing l.2 ∙ letter-no_flushing l.0 l.1 l.3) (no-batch rest (is_batch rest) refl (event-no_batch types names rest x h))

unblank-name : (name tail : List ℕ) → IsName name → behind_blanks (name ++ tail) ≡ name ++ tail
unblank-name [] tail h = absurd h
unblank-name (b ∷ bs) tail h = rw (letter-unblank b h.0) refl

event-unblank : (types : List EventShape) → HasNames types → (rest : List ℕ) (x : Value) → IsEvent types rest x → behind_blanks rest ≡ rest
event-unblank types names rest x (spelling, behind, e, a, n, k) =
    let s = event-name types n x spelling k in
    let whole : rest ≡ s.0.name ++ (s.1 ++ behind) = e ∙ ap (λ y. y ++ behind) s.3 ∙ append_assoc s.0.name s.1 behind in
    rw whole (unblank-name s.0.name (s.1 ++ behind) (name-of types n s.0 names s.2))

nothing-unblank : (rest : List ℕ) → IsNothing rest → behind_blanks rest ≡ rest
nothing-unblank rest (inl (inl e)) = rw e refl
nothing-unblank rest (inl (inr (more, inl e))) = rw e refl
nothing-unblank rest (inl (inr (more, inr e))) = rw e refl
nothing-unblank rest (inr (inl (before, digits, behind, end, e, a, d, b, c))) = rw e refl
nothing-unblank rest (inr (inr (before, digits, end, e, some, a, d, b))) = rw e refl

-- a quote stands in front of a channel
channelled-quote : (types : List EventShape) (rest channel : List ℕ) (x : Value) → IsChannelled types rest channel x → (more : List ℕ) × (rest ≡ 34 ∷ more)
channelled-quote types rest channel x (string, before, behind, event, e, (inner, s, b, l), c, d, h) =
    ((inner ++ 34 ∷ []) ++ (before ++ 44 ∷ (behind ++ event)), e ∙ ap (λ y. y ++ (before ++ 44 ∷ (behind ++ event))) s)

sent-unblank : (types : List EventShape) → HasNames types → (rest channel : List ℕ) (x : Value) → IsSent types rest channel x → behind_blanks rest ≡ rest
sent-unblank types names rest channel x (inl h) = event-unblank types names rest x h.1
sent-unblank types names rest channel x (inr h) = let q = channelled-quote types rest channel x h in rw q.1 refl

quote-something : (more : List ℕ) → is_nothing (34 ∷ more) ≡ false
unfolding is_nothing is_flushing is_batch
quote-something more = refl

sent-something : (types : List EventShape) → HasNames types → (rest channel : List ℕ) (x : Value) → IsSent types rest channel x → is_nothing rest ≡ false
sent-something types names rest channel x (inl h) = event-something types names rest x h.1
sent-something types names rest channel x (inr h) = let q = channelled-quote types rest channel x h in ap is_nothing q.1 ∙ quote-something q.0

pub sent-no_time : (types : List EventShape) → HasNames types → (rest channel : List ℕ) (x : Value) → IsSent types rest channel x → timed rest ≡ None
unfolding timed
sent-no_time types names rest channel x (inl h) = event-no_time types names rest x h.1
sent-no_time types names rest channel x (inr h) = let q = channelled-quote types rest channel x h in rw q.1 refl

time-unblank : (time : ℕ) (rest : List ℕ) → IsTimeLine time rest → behind_blanks rest ≡ rest
time-unblank time rest (before, spelling, behind, end, e, a, t, b, c) = rw e refl

time-something : (time : ℕ) (rest : List ℕ) → IsTimeLine time rest → is_nothing rest ≡ false
unfolding is_nothing is_flushing is_batch
time-something time rest (before, spelling, behind, end, e, a, t, b, c) = rw e refl

says-unblank : (types : List EventShape) → HasNames types → (last : ℤ) (rest : List ℕ) (meant : Option Item) → Says types last rest meant → behind_blanks rest ≡ rest
says-unblank types names last rest None h = nothing-unblank rest h
says-unblank types names last rest (Some (Event channel x)) h = sent-unblank types names rest channel x h
says-unblank types names last rest (Some (Time t)) h = time-unblank h.0 rest h.2

-- what a line says stands behind the blanks in front
pub says-behind : (types : List EventShape) → HasNames types → (last : ℤ) (line : List ℕ) (meant : Option Item) → IsLine types last line meant → Says types last (behind_blanks line) meant
says-behind types names last line meant (text, blanks, rest, e, b, s) =
    let same : behind_blanks line ≡ rest = ap behind_blanks e ∙ blanks-again blanks rest b ∙ says-unblank types names last rest meant s in
    rw same s

pub line-says : (types : List EventShape) (last : ℤ) (line : List ℕ) (meant : Option Item) → IsUtf8 line → Says types last (behind_blanks line) meant → IsLine types last line meant
line-says types last line meant text s = let b = blanks-read line in (text, b.0, behind_blanks line, b.1, b.2, s)

-- a channel is read with its comma
channel-read : (text channel rest : List ℕ) → channel_at text ≡ Some (channel, rest)
    → (string before behind : List ℕ) × (text ≡ string ++ (before ++ 44 ∷ (behind ++ rest))) × SpellsString channel string × AreBlanks before × AreBlanks behind
unfolding channel_at
channel-read text channel rest e =
    let r = bind-some (string_at text) (λ c. behind_sign 44 (behind_blanks c.1) >>= λ q. Some (c.0, behind_blanks q)) (channel, rest) e in
    let s = bind-some (behind_sign 44 (behind_blanks r.0.1)) (λ q. Some (r.0.0, behind_blanks q)) (channel, rest) r.2 in
    let p = pair-some _ _ _ _ s.2 in
    let w = string-read text r.0.0 r.0.1 r.1 in
    let b = blanks-read r.0.1 in
    let f = blanks-read s.0 in
    let whole = w.1 ∙ ap (λ x. w.0 ++ x) (b.1 ∙ ap (λ x. b.0 ++ x) (behind_sign-is 44 (behind_blanks r.0.1) s.0 s.1 ∙ ap (λ x. 44 ∷ x) (f.1 ∙ ap (λ x. f.0 ++ x) p.1))) in
    (w.0, b.0, f.0, whole, subst (λ c. SpellsString c w.0) p.0 w.2, b.2, f.2)

channel-again : (string before behind event channel : List ℕ) → SpellsString channel string → AreBlanks before → AreBlanks behind → behind_blanks event ≡ event
    → channel_at (string ++ (before ++ 44 ∷ (behind ++ event))) ≡ Some (channel, event)
unfolding channel_at
channel-again string before behind event channel s a b u =
    ap (λ o. o >>= λ c. behind_sign 44 (behind_blanks c.1) >>= λ q. Some (c.0, behind_blanks q)) (string-again channel string (before ++ 44 ∷ (behind ++ event)) s)
    ∙ ap (λ y. behind_sign 44 y >>= λ q. Some (channel, behind_blanks q)) (blanks-again before (44 ∷ (behind ++ event)) a)
    ∙ ap (λ y. Some (channel, y)) (blanks-again behind event b ∙ u)

channelled-again : (types : List EventShape) → HasNames types → (rest channel : List ℕ) (x : Value) → IsChannelled types rest channel x → (event : List ℕ) × (channel_at rest ≡ Some (channel, event)) × IsEvent types event x
channelled-again types names rest channel x (string, before, behind, event, e, s, a, b, h) =
    (event, ap channel_at e ∙ channel-again string before behind event channel s a b (event-unblank types names event x h), h)

-- two events at one place are one
event-alike : (types : List EventShape) → AreEventTypes types → (rest : List ℕ) (x y : Value) → IsEvent types rest x → IsEvent types rest y → x ≡ y
event-alike types ok rest x y (s, b, e, a, n, h) (t, g, f, z, m, k) = (same-event types ok rest n m x y s b t g e h f k).0

not-below : (a b : ℤ) → a <ℤ b → b ≤ℤ a → ⊥
not-below a b lt le = omega (arith, ints)

-- one channel and one event are sent at a place at most
sent-same : (types : List EventShape) → AreEventTypes types → (rest c d : List ℕ) (x y : Value) → IsSent types rest c x → IsSent types rest d y → (c ≡ d) × (x ≡ y)
sent-same types ok rest c d x y (inl (p, (s, b, e, a, n, h))) (inl (q, (t, g, f, z, m, k))) = (p ∙ sym q, (same-event types ok rest n m x y s b t g e h f k).0)
sent-same types ok rest c d x y (inl h) (inr k) =
    let q = channelled-quote types rest d y k in absurd (false≢true (sym (event-no_quote types ok.names rest x h.1) ∙ ap is_quote q.1))
sent-same types ok rest c d x y (inr h) (inl k) =
    let q = channelled-quote types rest c x h in absurd (false≢true (sym (event-no_quote types ok.names rest y k.1) ∙ ap is_quote q.1))
sent-same types ok rest c d x y (inr h) (inr k) =
    let one = channelled-again types ok.names rest c x h in
    let two = channelled-again types ok.names rest d y k in
    let p = pair-some c d one.0 two.0 (sym one.1 ∙ two.1) in
    (p.0, event-alike types ok two.0 x y (subst (λ r. IsEvent types r x) p.1 one.2) two.2)

-- a place says one thing at most
says-same : (types : List EventShape) → AreEventTypes types → (last : ℤ) (rest : List ℕ) (a b : Option Item) → Says types last rest a → Says types last rest b → a ≡ b
says-same types ok last rest None None h k = refl
says-same types ok last rest None (Some (Event c y)) h k = absurd (false≢true (sym (sent-something types ok.names rest c y k) ∙ nothing-pass rest h))
says-same types ok last rest None (Some (Time t)) h k = absurd (false≢true (sym (time-something k.0 rest k.2) ∙ nothing-pass rest h))
says-same types ok last rest (Some (Event c x)) None h k = absurd (false≢true (sym (sent-something types ok.names rest c x h) ∙ nothing-pass rest k))
says-same types ok last rest (Some (Event c x)) (Some (Event d y)) h k =
    let same = sent-same types ok rest c d x y h k in
    ap (λ v. Some (Event c v)) same.1 ∙ ap (λ v. Some (Event v y)) same.0
says-same types ok last rest (Some (Event c x)) (Some (Time t)) h k = absurd (none-some _ (sym (sent-no_time types ok.names rest c x h) ∙ timed-again rest k.0 k.2))
says-same types ok last rest (Some (Time t)) None h k = absurd (false≢true (sym (time-something h.0 rest h.2) ∙ nothing-pass rest k))
says-same types ok last rest (Some (Time t)) (Some (Event d y)) h k = absurd (none-some _ (sym (sent-no_time types ok.names rest d y k) ∙ timed-again rest h.0 h.2))
says-same types ok last rest (Some (Time t)) (Some (Time u)) h k =
    let same : h.0 ≡ k.0 = same_Some _ _ (sym (timed-again rest h.0 h.2) ∙ timed-again rest k.0 k.2) in
    ap (λ v. Some (Time v)) (h.1 ∙ ap pos same ∙ sym k.1)

pub line-same : (types : List EventShape) → AreEventTypes types → (last : ℤ) (line : List ℕ) (a b : Option Item) → IsLine types last line a → IsLine types last line b → a ≡ b
line-same types ok last line a b h k = says-same types ok last (behind_blanks line) a b (says-behind types ok.names last line a h) (says-behind types ok.names last line b k)

-- a line that is nothing and has no time and no event says nothing
pub says-none : (types : List EventShape) → HasNames types → (last : ℤ) (line : List ℕ) → is_nothing (behind_blanks line) ≡ false → timed (behind_blanks line) ≡ None
    → ((c : List ℕ) (x : Value) → IsSent types (behind_blanks line) c x → ⊥) → (meant : Option Item) → IsLine types last line meant → ⊥
says-none types names last line something untimed none None h = false≢true (sym something ∙ nothing-pass (behind_blanks line) (says-behind types names last line None h))
says-none types names last line something untimed none (Some (Event c x)) h = none c x (says-behind types names last line (Some (Event c x)) h)
says-none types names last line something untimed none (Some (Time t)) h =
    let k = says-behind types names last line (Some (Time t)) h in
    none-some _ (sym untimed ∙ timed-again (behind_blanks line) k.0 k.2)

-- a line whose time is less than the last one says nothing
says-falling : (types : List EventShape) → HasNames types → (last : ℤ) (line : List ℕ) (time : ℕ) → is_nothing (behind_blanks line) ≡ false → timed (behind_blanks line) ≡ Some time → pos time <ℤ last
    → (meant : Option Item) → IsLine types last line meant → ⊥
says-falling types names last line time something is falls None h = false≢true (sym something ∙ nothing-pass (behind_blanks line) (says-behind types names last line None h))
says-falling types names last line time something is falls (Some (Event c x)) h =
    none-some _ (sym (sent-no_time types names (behind_blanks line) c x (says-behind types names last line (Some (Event c x)) h)) ∙ is)
says-falling types names last line time something is falls (Some (Time t)) h =
    let k = says-behind types names last line (Some (Time t)) h in
    let same : time ≡ k.0 = same_Some _ _ (sym is ∙ timed-again (behind_blanks line) k.0 k.2) in
    not-below (pos time) last falls (rw (k.1 ∙ ap pos (sym same)) at k.3)

name-front-at : (b : ℕ) (bs : List ℕ) (t : Bool) → take (length (name_front bs)) bs ≡ name_front bs → take (length (cond t (b ∷ name_front bs) [])) (b ∷ bs) ≡ cond t (b ∷ name_front bs) []
name-front-at b bs true e = ap (λ x. b ∷ x) e
name-front-at b bs false e = refl

pub name_front-take : (text : List ℕ) → take (length (name_front text)) text ≡ name_front text
name_front-take [] = refl
name_front-take (b ∷ bs) = name-front-at b bs (is_letter b || is_digit b) (name_front-take bs)

pub finds-fault : (types : List EventShape) → AreEventTypes types → (rest : List ℕ) (n : ℕ) (f : TextFault) (r : Result Value TextFault) → HasName types (name_front rest) n → FindsValue types (shape.Event n) rest 0 (Err f)
    → IsErrAnd r (λ e. e ≡ f) → FindsEvent types rest r
finds-fault types ok rest n NoValue r name none h = let p = err_from_is_err_and r h in rw (p.1, p.2) (event-no_value types ok rest n name none)
finds-fault types ok rest n Memory r name none h = let p = err_from_is_err_and r h in rw (p.1, p.2) tt

-- the answers of `channelled` and `sent`
pub sent-found : (types : List EventShape) (text : List ℕ) (c rest : List ℕ) (x : Value) → channel_at text ≡ Some (c, rest) → IsEvent types rest x → IsSent types text c x
sent-found types text c rest x e h = let r = channel-read text c rest e in inr (r.0, r.1, r.2, rest, r.3, r.4, r.5, r.6, h)

-- behind a quote only an event with a channel is sent
sent-channelled : (types : List EventShape) → HasNames types → (text c : List ℕ) (x : Value) → is_quote text ≡ true → IsSent types text c x → (rest : List ℕ) × (channel_at text ≡ Some (c, rest)) × IsEvent types rest x
sent-channelled types names text c x quote (inl h) = absurd (false≢true (sym (event-no_quote types names text x h.1) ∙ quote))
sent-channelled types names text c x quote (inr h) = channelled-again types names text c x h

sent-no_channel : (types : List EventShape) → HasNames types → (text : List ℕ) → is_quote text ≡ true → channel_at text ≡ None → (c : List ℕ) (x : Value) → IsSent types text c x → ⊥
sent-no_channel types names text quote none c x h = let r = sent-channelled types names text c x quote h in none-some _ (sym none ∙ r.1)

sent-no_event : (types : List EventShape) → HasNames types → (text c rest : List ℕ) → is_quote text ≡ true → channel_at text ≡ Some (c, rest) → ((x : Value) → IsEvent types rest x → ⊥)
    → (d : List ℕ) (x : Value) → IsSent types text d x → ⊥
sent-no_event types names text c rest quote e none d x h =
    let r = sent-channelled types names text d x quote h in
    let p = pair-some d c r.0 rest (sym r.1 ∙ e) in
    none x (subst (λ y. IsEvent types y x) p.1 r.2)

sent-plain : (types : List EventShape) → (text c : List ℕ) (x : Value) → is_quote text ≡ false → IsSent types text c x → IsEvent types text x
sent-plain types text c x plain (inl h) = h.1
sent-plain types text c x plain (inr h) = let q = channelled-quote types text c x h in absurd (false≢true (sym plain ∙ ap is_quote q.1))

pub channel-fault : (types : List EventShape) → HasNames types → (text rest : List ℕ) (f : TextFault) (r : Result (List ℕ × Value) TextFault) → is_quote text ≡ true → Reads {X = List ℕ} (Err f) rest (channel_at text)
    → IsErrAnd r (λ e. e ≡ f) → FindsSent types text r
channel-fault types names text rest NoValue r quote none h = let p = err_from_is_err_and r h in rw (p.1, p.2) (sent-no_channel types names text quote none)
channel-fault types names text rest Memory r quote none h = let p = err_from_is_err_and r h in rw (p.1, p.2) tt

pub event-fault : (types : List EventShape) → HasNames types → (text c rest : List ℕ) (f : TextFault) (r : Result (List ℕ × Value) TextFault) → is_quote text ≡ true → channel_at text ≡ Some (c, rest)
    → FindsEvent types rest (Err f) → IsErrAnd r (λ e. e ≡ f) → FindsSent types text r
event-fault types names text c rest NoValue r quote e none h = let p = err_from_is_err_and r h in rw (p.1, p.2) (sent-no_event types names text c rest quote e none)
event-fault types names text c rest Memory r quote e none h = let p = err_from_is_err_and r h in rw (p.1, p.2) tt

pub plain-fault : (types : List EventShape) (text : List ℕ) (f : TextFault) (r : Result (List ℕ × Value) TextFault) → is_quote text ≡ false → FindsEvent types text (Err f) → IsErrAnd r (λ e. e ≡ f) → FindsSent types text r
plain-fault types text NoValue r plain none h = let p = err_from_is_err_and r h in rw (p.1, p.2) (λ c x s. none x (sent-plain types text c x plain s))
plain-fault types text Memory r plain none h = let p = err_from_is_err_and r h in rw (p.1, p.2) tt

-- the answers of `meaning`
pub nothing-line : (types : List EventShape) (last : ℤ) (line text rest : List ℕ) → IsUtf8 line → text ≡ line → rest ≡ behind_blanks text → is_nothing rest ≡ true → IsLine types last line None
nothing-line types last line text rest utf8 t r e =
    let same : rest ≡ behind_blanks line = r ∙ ap behind_blanks t in line-says types last line None utf8 (rw same at (nothing-test rest e))

pub sent-line : (types : List EventShape) (last : ℤ) (line text rest channel : List ℕ) (x : Value) → IsUtf8 line → text ≡ line → rest ≡ behind_blanks text → IsSent types rest channel x
    → IsLine types last line (Some (Event channel x))
sent-line types last line text rest channel x utf8 t r h =
    let same : rest ≡ behind_blanks line = r ∙ ap behind_blanks t in
    line-says types last line (Some (Event channel x)) utf8 (subst (λ y. IsSent types y channel x) same h)

pub time-line : (types : List EventShape) → HasNames types → (last : ℤ) (line text rest : List ℕ) (time : ℕ) (r : Result (Option Item) TextFault) → IsUtf8 line → text ≡ line → rest ≡ behind_blanks text → is_nothing rest ≡ false
    → timed rest ≡ Some time → SaysTime last time r → FindsMeaning types last line r
time-line types names last line text rest time (Ok meant) utf8 t b something is h =
    let same : rest ≡ behind_blanks line = b ∙ ap behind_blanks t in
    rw h.0 (line-says types last line (Some (Time (pos time))) utf8 (time, refl, subst (IsTimeLine time) same (timed-read rest time is), h.1))
time-line types names last line text rest time (Err NoValue) utf8 t b something is h =
    let same : rest ≡ behind_blanks line = b ∙ ap behind_blanks t in
    says-falling types names last line time (sym (ap is_nothing same) ∙ something) (sym (ap timed same) ∙ is) h
time-line types names last line text rest time (Err Memory) utf8 t b something is h = absurd h

fault-here : (types : List EventShape) → HasNames types → (last : ℤ) (line : List ℕ) (f : TextFault) (r : Result (Option Item) TextFault) → is_nothing (behind_blanks line) ≡ false → timed (behind_blanks line) ≡ None
    → FindsSent types (behind_blanks line) (Err f) → IsErrAnd r (λ e. e ≡ f) → FindsMeaning types last line r
fault-here types names last line NoValue r something untimed none h = let p = err_from_is_err_and r h in rw (p.1, p.2) (says-none types names last line something untimed none)
fault-here types names last line Memory r something untimed none h = let p = err_from_is_err_and r h in rw (p.1, p.2) tt

pub fault-line : (types : List EventShape) → AreEventTypes types → (last : ℤ) (line text rest : List ℕ) (f : TextFault) (r : Result (Option Item) TextFault) → text ≡ line → rest ≡ behind_blanks text → is_nothing rest ≡ false
    → timed rest ≡ None → FindsSent types rest (Err f) → IsErrAnd r (λ e. e ≡ f) → FindsMeaning types last line r
fault-line types ok last line text rest f r t b e untimed finds h =
    let same : rest ≡ behind_blanks line = b ∙ ap behind_blanks t in
    fault-here types ok.names last line f r (sym (ap is_nothing same) ∙ e) (sym (ap timed same) ∙ untimed) (subst (λ x. FindsSent types x (Err f)) same finds) h
