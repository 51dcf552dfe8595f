-- The inside of a string, piece by piece.
use Rattle.evt_text.proofs.Common.{ℕ, List, [], length, take, drop, get_or, Bool, true, false, cond, Option, Some, None, refl, sym, ◌∙◌, ap, arith, inl, inr, length-append, IsCharBoundary, option_map, or_cases, take_at, is_plain, escaped, with_front, behind_sign, inside_from}
use Rattle.std.proofs.Common.{◌≡◌, ◌<◌, ◌∷◌, ◌++◌, ◌||◌, ◌==◌, eqb-true, append-nil}
use Rattle.std.proofs.lemmas.Bool.{both_ways, not-true, not-false, or_parts}
use Rattle.std.proofs.lemmas.List.{drop_at}
use Rattle.evt_text.specs.Reading.{◌>>=◌, letter_at, escape_at, plain_front, behind_plain}
use Rattle.evt_text.proofs.Cases.{chosen, bind-some, map-some, pair-some, with_front-twice, with_front-nil}
use Rattle.evt_text.proofs.Fronts.{behind_sign-is}

pub plain-tests : (b : ℕ) → is_plain b ≡ true → ((b == 34) ≡ false) × ((b == 92) ≡ false) × ((b == 10) ≡ false)
plain-tests b e = let p = or_parts _ _ (not-true _ e) in let q = or_parts _ _ p.0 in (q.0, q.1, p.1)

split-at : (b : ℕ) (bs : List ℕ) (t : Bool) → bs ≡ plain_front bs ++ behind_plain bs → b ∷ bs ≡ cond t (b ∷ plain_front bs) [] ++ cond t (behind_plain bs) (b ∷ bs)
split-at b bs true h = ap (λ x. b ∷ x) h
split-at b bs false h = refl

pub plain-split : (text : List ℕ) → text ≡ plain_front text ++ behind_plain text
plain-split [] = refl
plain-split (b ∷ bs) = split-at b bs (is_plain b) (plain-split bs)

edge-at : (b : ℕ) (bs : List ℕ) (t : Bool) → is_plain b ≡ t → (length (plain_front bs) < length bs → get_or bs (length (plain_front bs)) 0 < 128)
    → length (cond t (b ∷ plain_front bs) []) < length (b ∷ bs) → get_or (b ∷ bs) (length (cond t (b ∷ plain_front bs) [])) 0 < 128
edge-at b bs true e h lt = h (omega arith)
edge-at b bs false e h lt =
    elim (or_cases (b == 34 || b == 92) (b == 10) (not-false _ e)) [ inl p ↦ elim (or_cases (b == 34) (b == 92) p) [ inl q ↦ (let k = eqb-true b 34 q in omega arith) | inr q ↦ (let k = eqb-true b 92 q in omega arith) ] | inr p ↦ (let k = eqb-true b 10 p in omega arith) ]

pub plain-edge : (text : List ℕ) → length (plain_front text) < length text → get_or text (length (plain_front text)) 0 < 128
plain-edge [] lt = omega arith
plain-edge (b ∷ bs) lt = edge-at b bs (is_plain b) refl (plain-edge bs) lt

pub plain-boundary : (text : List ℕ) → IsCharBoundary text (length (plain_front text))
plain-boundary text = (omega (arith, ap length (plain-split text), length-append (plain_front text) (behind_plain text)), λ lt ge. let k = plain-edge text lt in omega arith)

pub plain-take : (text : List ℕ) → take (length (plain_front text)) text ≡ plain_front text
plain-take text = ap (take (length (plain_front text))) (plain-split text) ∙ take_at (plain_front text) (behind_plain text) _ refl

pub plain-drop : (text : List ℕ) → drop (length (plain_front text)) text ≡ behind_plain text
plain-drop text = ap (drop (length (plain_front text))) (plain-split text) ∙ drop_at (plain_front text) (behind_plain text) _ refl

inside-at : (b : ℕ) (bs : List ℕ) (t : Bool) → is_plain b ≡ t → inside_from false bs ≡ with_front (plain_front bs) (inside_from false (behind_plain bs))
    → inside_from false (b ∷ bs) ≡ with_front (cond t (b ∷ plain_front bs) []) (inside_from false (cond t (behind_plain bs) (b ∷ bs)))
inside-at b bs true e h = let p = plain-tests b e in rw (p.0, p.1, p.2, h) (with_front-twice (b ∷ []) (plain_front bs) (inside_from false (behind_plain bs)))
inside-at b bs false e h = sym (with_front-nil (inside_from false (b ∷ bs)))

-- the plain bytes are read first
pub inside-plain : (text : List ℕ) → inside_from false text ≡ with_front (plain_front text) (inside_from false (behind_plain text))
inside-plain [] = refl
inside-plain (b ∷ bs) = inside-at b bs (is_plain b) refl (inside-plain bs)

pub inside-quote : (text rest : List ℕ) → behind_sign 34 text ≡ Some rest → inside_from false text ≡ Some ([], rest)
inside-quote text rest e = rw (behind_sign-is 34 text rest e) refl

-- no plain byte is in front
abbrev pub Stands : List ℕ → Type 0
Stands [] = Unit {0}
Stands (b ∷ bs) = is_plain b ≡ false

stands-at : (b : ℕ) (bs : List ℕ) (t : Bool) → is_plain b ≡ t → Stands (behind_plain bs) → Stands (cond t (behind_plain bs) (b ∷ bs))
stands-at b bs true e h = h
stands-at b bs false e h = e

stands : (text : List ℕ) → Stands (behind_plain text)
stands [] = tt
stands (b ∷ bs) = stands-at b bs (is_plain b) refl (stands bs)

-- a piece, and then the rest of the string
abbrev pub goes_on : List ℕ × List ℕ → Option (List ℕ × List ℕ)
goes_on read = with_front read.0 (inside_from false read.1)

abbrev pub piece_before : List ℕ → ℕ → List ℕ × List ℕ
piece_before more byte = (byte ∷ [], more)

escaped-at : (more : List ℕ) (o : Option ℕ) → (o >>= λ x. with_front (x ∷ []) (inside_from false more)) ≡ (option_map (piece_before more) o >>= goes_on)
escaped-at more None = refl
escaped-at more (Some x) = refl

letter-at : (bs : List ℕ) → inside_from true bs ≡ (letter_at bs >>= goes_on)
letter-at [] = refl
letter-at (e ∷ more) = escaped-at more (escaped e)

-- behind the plain bytes stands a quote or an escape
pub inside-escape : (text : List ℕ) → Stands text → behind_sign 34 text ≡ None → inside_from false text ≡ (escape_at text >>= goes_on)
unfolding escape_at
inside-escape [] s e = refl
inside-escape (b ∷ bs) s e = elim (chosen (b == 34) _ _ _ e) [
  | inl h ↦ absurd (let k = h.1 in cc)
  | inr h ↦ elim (or_cases (b == 34 || b == 92) (b == 10) (not-false _ s)) [
    | inl p ↦ elim (or_cases (b == 34) (b == 92) p) [ inl q ↦ absurd (both_ways _ h.0 q) | inr q ↦ rw (h.0, q) (letter-at bs) ]
    | inr p ↦ (let k = eqb-true b 10 p in rw k refl)
  ]
]

escape-shorter-at : (bs piece rest : List ℕ) → letter_at bs ≡ Some (piece, rest) → length rest < length bs
escape-shorter-at [] piece rest e = absurd (cc)
escape-shorter-at (b ∷ bs) piece rest e = let m = map-some (λ x. (x ∷ [], bs)) (escaped b) (piece, rest) e in let k = pair-some _ _ _ _ (ap (λ x. Some x) m.2) in rw (← k.1) (omega arith)

escape-shorter : (text piece rest : List ℕ) → escape_at text ≡ Some (piece, rest) → length rest < length text
unfolding escape_at
escape-shorter text piece rest e =
    let p = bind-some (behind_sign 92 text) letter_at (piece, rest) e in
    rw (behind_sign-is 92 text p.0 p.1) (let k = escape-shorter-at p.0 piece rest p.2 in omega arith)

-- the loop over pieces
pub string-done : (value text rest : List ℕ) (whole : Option (List ℕ × List ℕ)) → with_front value (inside_from false text) ≡ whole
    → behind_sign 34 (behind_plain text) ≡ Some rest → whole ≡ Some (value ++ plain_front text, rest)
string-done value text rest whole e quote =
    sym e ∙ rw (inside-plain text, inside-quote _ rest quote, append-nil) refl

pub string-stop : (value text : List ℕ) (whole : Option (List ℕ × List ℕ)) → with_front value (inside_from false text) ≡ whole
    → behind_sign 34 (behind_plain text) ≡ None → escape_at (behind_plain text) ≡ None → whole ≡ None
string-stop value text whole e quote none =
    sym e ∙ rw (inside-plain text, inside-escape _ (stands text) quote, none) refl

pub string-more : (value text piece rest : List ℕ) (whole : Option (List ℕ × List ℕ)) → with_front value (inside_from false text) ≡ whole
    → behind_sign 34 (behind_plain text) ≡ None → escape_at (behind_plain text) ≡ Some (piece, rest)
    → with_front ((value ++ plain_front text) ++ piece) (inside_from false rest) ≡ whole
string-more value text piece rest whole e quote some =
    sym (with_front-twice (value ++ plain_front text) piece (inside_from false rest)) ∙ sym (with_front-twice value (plain_front text) _)
    ∙ sym (ap (with_front value) (inside-plain text ∙ ap (with_front (plain_front text)) (inside-escape _ (stands text) quote ∙ rw some refl))) ∙ e

pub string-smaller : (text piece rest : List ℕ) → escape_at (behind_plain text) ≡ Some (piece, rest) → length rest < length text
string-smaller text piece rest some = omega (arith, escape-shorter _ piece rest some, ap length (plain-split text), length-append (plain_front text) (behind_plain text))
