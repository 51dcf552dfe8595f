-- The texts of integers, strings and lists are spelled as such.
use Rattle.std.proofs.Common.{◌≡◌, ◌<◌, ◌≤◌, ◌∷◌, ◌++◌, ◌==◌, ◌^◌, ◌⊎◌, append-nil, negsuc}
use Rattle.evt_text.proofs.Common.{ℕ, ℤ, pos, neg_ℤ, suc, List, [], length, map, Bool, true, false, refl, sym, ap, ◌∙◌, arith, append_assoc, length-append, inl, inr, AllByRecursion, digits_value, eqb-true, Field, Value, Pair, out-Pair, SpellsInteger, SpellsBytes, SpellsString, SpellsFields, KeysAscend, Less, order_of}
use Rattle.std.specs.Fmt.{decimal, signed_decimal}
use Rattle.std.specs.List.{flat_map}
use Rattle.std.proofs.lemmas.Fmt.{decimal_is_IsNumeral}
use Rattle.epl_values.specs.declared.value.Pair.{roll-out-Pair}
use Rattle.event_types.specs.Types.{form_of}
use Rattle.value_rules.specs.Texts.{escaped as written, quoted, with_commas}
use Rattle.evt_text.specs.Entries.{entered, with_entries, with_entry}
use Rattle.evt_text.specs.Readable.{IsOf64Bits}
use Rattle.evt_text.specs.Spelling.{SpellsByte, SpellsItems, SpellsList}
use Rattle.evt_text.proofs.Nested.{Speller}

pub integer_spelled : (z : ℤ) → IsOf64Bits z → SpellsInteger z (signed_decimal z)
integer_spelled (pos n) h =
    let d = decimal_is_IsNumeral n (omega arith) in
    let small : digits_value 10 (decimal n) < 2 ^ 63 = rw d.1 h in
    inl (d.0, small, ap pos (sym d.1))
integer_spelled (negsuc n) h =
    let d = decimal_is_IsNumeral (suc n) (omega arith) in
    let small : digits_value 10 (decimal (suc n)) ≤ 2 ^ 63 = rw d.1 (omega arith) in
    inr (decimal (suc n), refl, d.0, small, ap (λ m. neg_ℤ (pos m)) (sym d.1))

by_test : (b k : ℕ) (t : Bool) → (b == k) ≡ t → (b ≡ k) ⊎ ((b == k) ≡ false)
by_test b k true e = inl (eqb-true b k e)
by_test b k false e = inr e

byte_spelled : (b : ℕ) → SpellsByte b (written b)
byte_spelled b = elim (by_test b 34 (b == 34) refl) [
  | inl e ↦ rw e (inr (34, refl, refl))
  | inr quote ↦ elim (by_test b 92 (b == 92) refl) [
    | inl e ↦ rw e (inr (92, refl, refl))
    | inr backslash ↦ elim (by_test b 10 (b == 10) refl) [
      | inl e ↦ rw e (inr (110, refl, refl))
      | inr newline ↦ elim (by_test b 13 (b == 13) refl) [
        | inl e ↦ rw e (inr (114, refl, refl))
        | inr return ↦ elim (by_test b 9 (b == 9) refl) [
          | inl e ↦ rw e (inr (116, refl, refl))
          | inr tab ↦ inl (rw (quote, backslash, newline) refl, rw (quote, backslash, newline, return, tab) refl)
        ]
      ]
    ]
  ]
]

bytes_spelled : (bytes : List ℕ) → SpellsBytes bytes (flat_map written bytes)
bytes_spelled [] = refl
bytes_spelled (b ∷ bytes) = (written b, flat_map written bytes, refl, byte_spelled b, bytes_spelled bytes)

pub string_spelled : (bytes : List ℕ) → length bytes ≤ 1048576 → SpellsString bytes (quoted bytes)
string_spelled bytes le = (flat_map written bytes, refl, bytes_spelled bytes, le)

-- ---- lists

module _ {X : Type 0} (Q : X → List ℕ → Type 0) (t : X → List ℕ) where
  listed_more : (xs : List X) → AllByRecursion (λ x. Q x (t x)) xs → SpellsItems Q false xs (flat_map (λ u. 44 ∷ u) (map t xs))
  listed_more [] a = refl
  listed_more (x ∷ xs) a = (44 ∷ [], t x, [], flat_map (λ u. 44 ∷ u) (map t xs), simp (append_assoc, append-nil), ([], refl, tt), a.0, tt, listed_more xs a.1)

  listed : (xs : List X) → AllByRecursion (λ x. Q x (t x)) xs → SpellsItems Q true xs (with_commas (map t xs))
  listed [] a = refl
  listed (x ∷ xs) a = ([], t x, [], flat_map (λ u. 44 ∷ u) (map t xs), simp (append_assoc, append-nil), refl, a.0, tt, listed_more xs a.1)

  pub list_spelled : (left right : ℕ) (xs : List X) → AllByRecursion (λ x. Q x (t x)) xs → SpellsList Q left right xs (left ∷ with_commas (map t xs) ++ right ∷ [])
  list_spelled left right xs a = ([], with_commas (map t xs), simp (append_assoc, append-nil), tt, listed xs a)

module _ {X : Type 0} (t : X → List ℕ) where
  shorter_more : (most : ℕ) (xs : List X) → length (flat_map (λ u. 44 ∷ u) (map t xs)) < most → AllByRecursion (λ x. length (t x) < most) xs
  shorter_more most [] lt = tt
  shorter_more most (x ∷ xs) lt =
      let e = length-append (44 ∷ t x) (flat_map (λ u. 44 ∷ u) (map t xs)) in
      let first : length (t x) < most = omega arith in
      let rest : length (flat_map (λ u. 44 ∷ u) (map t xs)) < most = omega arith in
      (first, shorter_more most xs rest)

  -- each item's text is shorter than the list's
  pub each_shorter : (most : ℕ) (xs : List X) → length (with_commas (map t xs)) < most → AllByRecursion (λ x. length (t x) < most) xs
  each_shorter most [] lt = tt
  each_shorter most (x ∷ xs) lt =
      let e = length-append (t x) (flat_map (λ u. 44 ∷ u) (map t xs)) in
      let first : length (t x) < most = omega arith in
      let rest : length (flat_map (λ u. 44 ∷ u) (map t xs)) < most = omega arith in
      (first, shorter_more most xs rest)

pub inner_shorter : (left right : ℕ) (inner : List ℕ) (d : ℕ) → length (left ∷ inner ++ right ∷ []) < suc d → length inner < d
inner_shorter left right inner d lt = omega (arith, length-append (left ∷ inner) (right ∷ []), length-append inner (right ∷ []))

-- ---- fields

-- values are spelled by their texts, field by field
abbrev pub AreSpelled : Speller → (Value → List ℕ) → List Field → List Value → Type 0
AreSpelled P t [] [] = Unit {0}
AreSpelled P t (field ∷ fields) (x ∷ xs) = P (form_of field.shape) x (t x) × AreSpelled P t fields xs
AreSpelled P t fields xs = ⊥

module _ (P : Speller) (t : Value → List ℕ) where
  fields_more : (fields : List Field) (xs : List Value) → AreSpelled P t fields xs → SpellsFields P false fields xs (flat_map (λ u. 44 ∷ u) (map t xs))
  fields_more [] [] a = refl
  fields_more [] (x ∷ xs) a = absurd a
  fields_more (f ∷ fs) [] a = absurd a
  fields_more (f ∷ fs) (x ∷ xs) a = (44 ∷ [], t x, [], flat_map (λ u. 44 ∷ u) (map t xs), simp (append_assoc, append-nil), ([], refl, tt), a.0, tt, fields_more fs xs a.1)

  pub fields_spelled : (fields : List Field) (xs : List Value) → AreSpelled P t fields xs → SpellsFields P true fields xs (with_commas (map t xs))
  fields_spelled [] [] a = refl
  fields_spelled [] (x ∷ xs) a = absurd a
  fields_spelled (f ∷ fs) [] a = absurd a
  fields_spelled (f ∷ fs) (x ∷ xs) a = ([], t x, [], flat_map (λ u. 44 ∷ u) (map t xs), simp (append_assoc, append-nil), refl, a.0, tt, fields_more fs xs a.1)

-- ---- dictionaries whose keys ascend

-- a key behind all those that are there is put at the end
put_last : (p : Pair) (pairs : List Pair) → AllByRecursion (λ k. order_of k (out-Pair p).key ≡ Less) (map (λ q. q.key) pairs) → with_entry (out-Pair p).key (out-Pair p).value pairs ≡ pairs ++ p ∷ []
put_last p [] a = ap (λ q. q ∷ []) (roll-out-Pair p)
put_last p (q ∷ qs) a = rw (a.0, put_last p qs a.1) refl

-- each key that is there is before each that follows
abbrev AreBefore : List Pair → List Pair → Type 0
AreBefore pairs [] = Unit {0}
AreBefore pairs (p ∷ ps) = AllByRecursion (λ k. order_of k (out-Pair p).key ≡ Less) (map (λ q. q.key) pairs) × AreBefore pairs ps

one_more : (pairs : List Pair) (p : Pair) (ps : List Pair) → AreBefore pairs ps → AllByRecursion (λ k. order_of (out-Pair p).key k ≡ Less) (map (λ q. q.key) ps) → AreBefore (pairs ++ p ∷ []) ps
one_more pairs p [] a b = tt
one_more pairs p (q ∷ qs) a b = (behind pairs a.0, one_more pairs p qs a.1 b.1) where
  behind : (xs : List Pair) → AllByRecursion (λ k. order_of k (out-Pair q).key ≡ Less) (map (λ x. x.key) xs) → AllByRecursion (λ k. order_of k (out-Pair q).key ≡ Less) (map (λ x. x.key) (xs ++ p ∷ []))
  behind [] h = (b.0, tt)
  behind (x ∷ xs) h = (h.0, behind xs h.1)

put_on : (pairs more : List Pair) → AreBefore pairs more → KeysAscend more → with_entries pairs more ≡ pairs ++ more
put_on pairs [] a k = sym (append-nil pairs)
put_on pairs (p ∷ ps) a k = ap (λ xs. with_entries xs ps) (put_last p pairs a.0) ∙ put_on (pairs ++ p ∷ []) ps (one_more pairs p ps a.1 k.0) k.1 ∙ append_assoc pairs (p ∷ []) ps

none_before : (pairs : List Pair) → AreBefore [] pairs
none_before [] = tt
none_before (p ∷ ps) = (tt, none_before ps)

-- entries in order make the dictionary that they are
pub entered_again : (pairs : List Pair) → KeysAscend pairs → entered pairs ≡ pairs
entered_again pairs k = put_on [] pairs (none_before pairs) k
