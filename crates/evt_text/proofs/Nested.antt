-- What is read as a value is spelled so.
use Rattle.std.proofs.Common.{◌≡◌, ◌∷◌, ◌++◌}
use Rattle.evt_text.proofs.Common.{ℕ, zero, suc, List, [], Bool, true, false, Option, Some, None, refl, sym, ◌∙◌, ap, append_assoc, slice_get, none-some, same_Some, Field, EventShape, Value, Pair, Form, IntegerForm, BooleanForm, TextForm, SequenceForm, DictionaryForm, EventForm, ContextForm, ListenerForm, AreBlanks, IsLead, SpellsFields, SpellsEvent, SpellsWithin, with_front, behind_sign, behind_name, behind_blanks, fields_from, form_at}
use Rattle.epl_values.specs.declared.value.Value.TheVariants as value
use Rattle.event_types.specs.Types.{form_of}
use Rattle.value_rules.specs.Texts.{truth_text}
use Rattle.evt_text.specs.Entries.{entry, entered}
use Rattle.evt_text.specs.Spelling.{SpellsEntry, SpellsForm, SpellsItems, SpellsList}
use Rattle.evt_text.specs.Reading.{◌>>=◌, behind_lead, behind_opening, truth_or, truth_at, integer_at, string_at, item_at, items_from, unless_closed, list_at, entry_at, put_in, event_at, typed_at, value_from}
use Rattle.evt_text.proofs.Cases.{bind-some, map-some, pair-some}
use Rattle.evt_text.proofs.Fronts.{behind_sign-is, behind_name-is}
use Rattle.evt_text.proofs.Spelled.{integer-read, string-read, blanks-read}

-- what reads values of a form, and what spells them
abbrev pub Reader : Type 0
Reader = Form → List ℕ → Option (Value × List ℕ)

abbrev pub Speller : Type 1
Speller = Form → Value → List ℕ → Type 0

-- each thing that is read is spelled so
abbrev pub IsSoundAt : {X : Type 0} → (List ℕ → Option (X × List ℕ)) → (X → List ℕ → Type 0) → Type 0
IsSoundAt {X = X} one Q = (text : List ℕ) (x : X) (rest : List ℕ) → one text ≡ Some (x, rest) → (spelling : List ℕ) × (text ≡ spelling ++ rest) × Q x spelling

-- each value that is read is spelled so
abbrev pub IsSound : Reader → Speller → Type 0
IsSound one P = (form : Form) → IsSoundAt (one form) (P form)

truth-cases : (text : List ℕ) (o p : Option (List ℕ)) (truth : Bool) (rest : List ℕ) → behind_name (truth_text true) text ≡ o → behind_name (truth_text false) text ≡ p → truth_or o p ≡ Some (truth, rest)
    → text ≡ truth_text truth ++ rest
truth-cases text (Some r) p truth rest e f h = let q = pair-some _ _ _ _ h in behind_name-is (truth_text true) text r e ∙ ap (λ x. truth_text true ++ x) q.1 ∙ ap (λ x. truth_text x ++ rest) q.0
truth-cases text None p truth rest e f h =
    let m = map-some (λ x. (false, x)) p (truth, rest) h in
    behind_name-is (truth_text false) text m.0 (f ∙ m.1) ∙ ap (λ x. truth_text false ++ x) (ap (λ x. x.1) m.2) ∙ ap (λ x. truth_text x ++ rest) (ap (λ x. x.0) m.2)

truth-read : (text : List ℕ) (truth : Bool) (rest : List ℕ) → truth_at text ≡ Some (truth, rest) → text ≡ truth_text truth ++ rest
unfolding truth_at
truth-read text truth rest e = truth-cases text (behind_name (truth_text true) text) (behind_name (truth_text false) text) truth rest refl refl e

lead-read : (first : Bool) (text rest : List ℕ) → behind_lead first text ≡ Some rest → (lead : List ℕ) × (text ≡ lead ++ rest) × IsLead first lead
unfolding behind_lead
lead-read true text rest e = ([], same_Some _ _ e, refl)
lead-read false text rest e =
    let m = map-some behind_blanks (behind_sign 44 text) rest e in
    let b = blanks-read m.0 in
    (44 ∷ b.0, behind_sign-is 44 text m.0 m.1 ∙ ap (λ x. 44 ∷ x) (b.1 ∙ ap (λ x. b.0 ++ x) m.2), (b.0, refl, b.2))

opening-read : (sign : ℕ) (text rest : List ℕ) → behind_opening sign text ≡ Some rest → (blanks : List ℕ) × (text ≡ sign ∷ (blanks ++ rest)) × AreBlanks blanks
unfolding behind_opening
opening-read sign text rest e =
    let m = map-some behind_blanks (behind_sign sign text) rest e in
    let b = blanks-read m.0 in
    (b.0, behind_sign-is sign text m.0 m.1 ∙ ap (λ x. sign ∷ x) (b.1 ∙ ap (λ x. b.0 ++ x) m.2), b.2)

-- an item in front: its lead, its spelling and the blanks behind it
abbrev pub IsInFront : {X : Type 0} → (X → List ℕ → Type 0) → Bool → List ℕ → X → List ℕ → Type 0
IsInFront Q first text x rest = (lead spelling blanks : List ℕ) × (text ≡ lead ++ spelling ++ blanks ++ rest) × IsLead first lead × Q x spelling × AreBlanks blanks

item-front : (text lead r spelling q blanks rest : List ℕ) → text ≡ lead ++ r → r ≡ spelling ++ q → q ≡ blanks ++ rest → text ≡ lead ++ spelling ++ blanks ++ rest
item-front text lead r spelling q blanks rest t r-is q-is = rw (t, r-is, q-is) (simp append_assoc)

item-read : {X : Type 0} (one : List ℕ → Option (X × List ℕ)) (Q : X → List ℕ → Type 0) → IsSoundAt one Q → (first : Bool) (text : List ℕ) (x : X) (rest : List ℕ) → item_at one first text ≡ Some (x, rest)
    → IsInFront Q first text x rest
unfolding item_at
item-read one Q sound first text x rest e =
    let a = bind-some (behind_lead first text) (λ r. one r >>= λ y. Some (y.0, behind_blanks y.1)) (x, rest) e in
    let v = bind-some (one a.0) (λ y. Some (y.0, behind_blanks y.1)) (x, rest) a.2 in
    let p = pair-some _ _ _ _ v.2 in
    let l = lead-read first text a.0 a.1 in
    let s = sound a.0 x v.0.1 (v.1 ∙ ap (λ y. Some (y, v.0.1)) p.0) in
    let b = blanks-read v.0.1 in
    (l.0, s.0, b.0, item-front text l.0 a.0 s.0 v.0.1 b.0 rest l.1 s.1 (b.1 ∙ ap (λ y. b.0 ++ y) p.1), l.2, s.2, b.2)

fields-front : (P : Speller) (first : Bool) (field : Field) (fields : List Field) (text : List ℕ) (x : Value) (xs all : List Value) (q rest : List ℕ)
    → IsInFront (P (form_of field.shape)) first text x q
    → ((inner : List ℕ) × (q ≡ inner ++ rest) × SpellsFields P false fields xs inner) → x ∷ xs ≡ all
    → (inner : List ℕ) × (text ≡ inner ++ rest) × SpellsFields P first (field ∷ fields) all inner
fields-front P first field fields text x xs all q rest f m v =
    rw (← v) (f.0 ++ f.1 ++ f.2 ++ m.0, f.3 ∙ ap (λ y. f.0 ++ f.1 ++ f.2 ++ y) m.1 ∙ sym (append_assoc (f.0 ++ f.1 ++ f.2) m.0 rest), (f.0, f.1, f.2, m.0, refl, f.4, f.5, f.6, m.2))

pub fields-read : (one : Reader) (P : Speller) → IsSound one P → (first : Bool) (fields : List Field) (text : List ℕ) (xs : List Value) (rest : List ℕ) → fields_from one first fields text ≡ Some (xs, rest)
    → (inner : List ℕ) × (text ≡ inner ++ rest) × SpellsFields P first fields xs inner
fields-read one P sound first [] text xs rest e = let p = pair-some _ _ _ _ e in rw (← p.0) ([], p.1, refl)
fields-read one P sound first (field ∷ fields) text xs rest e =
    let a = bind-some (item_at (one (form_of field.shape)) first text) (λ x. with_front (x.0 ∷ []) (fields_from one false fields x.1)) (xs, rest) e in
    let m = map-some (λ x. (a.0.0 ∷ x.0, x.1)) (fields_from one false fields a.0.1) (xs, rest) a.2 in
    let f = item-read (one (form_of field.shape)) (P (form_of field.shape)) (sound (form_of field.shape)) first text a.0.0 a.0.1 a.1 in
    let more = fields-read one P sound false fields a.0.1 m.0.0 rest (m.1 ∙ ap (λ y. Some (m.0.0, y)) (ap (λ y. y.1) m.2)) in
    fields-front P first field fields text a.0.0 m.0.0 xs a.0.1 rest f more (ap (λ y. y.0) m.2)

module _ {X : Type 0} (one : List ℕ → Option (X × List ℕ)) (Q : X → List ℕ → Type 0) (sound : IsSoundAt one Q) (right : ℕ) where
  -- items in front, up to the closing sign
  abbrev AreInFront : Bool → List ℕ → List X → List ℕ → Type 0
  AreInFront first text xs rest = (inner : List ℕ) × (text ≡ inner ++ right ∷ rest) × SpellsItems Q first xs inner

  items-front : (first : Bool) (text : List ℕ) (x : X) (xs all : List X) (q rest : List ℕ) → IsInFront Q first text x q → AreInFront false q xs rest → x ∷ xs ≡ all → AreInFront first text all rest
  items-front first text x xs all q rest f m v =
      rw (← v) (f.0 ++ f.1 ++ f.2 ++ m.0, f.3 ∙ ap (λ y. f.0 ++ f.1 ++ f.2 ++ y) m.1 ∙ sym (append_assoc (f.0 ++ f.1 ++ f.2) m.0 (right ∷ rest)), (f.0, f.1, f.2, m.0, refl, f.4, f.5, f.6, m.2))

  none-front : (first : Bool) (text r : List ℕ) (xs : List X) (rest : List ℕ) → text ≡ right ∷ r → [] ≡ xs → r ≡ rest → AreInFront first text xs rest
  none-front first text r xs rest t v q = rw (← v, ← q) ([], t, refl)

  items-cases : (n : ℕ) → ((first : Bool) (text : List ℕ) (xs : List X) (rest : List ℕ) → items_from one right n first text ≡ Some (xs, rest) → AreInFront first text xs rest)
      → (first : Bool) (text : List ℕ) (xs : List X) (rest : List ℕ) (o : Option (List ℕ)) → behind_sign right text ≡ o
      → unless_closed o (item_at one first text >>= λ x. with_front (x.0 ∷ []) (items_from one right n false x.1)) ≡ Some (xs, rest) → AreInFront first text xs rest
  items-cases n more first text xs rest (Some r) c e = let p = pair-some _ _ _ _ e in none-front first text r xs rest (behind_sign-is right text r c) p.0 p.1
  items-cases n more first text xs rest None c e =
      let a = bind-some (item_at one first text) (λ x. with_front (x.0 ∷ []) (items_from one right n false x.1)) (xs, rest) e in
      let m = map-some (λ x. (a.0.0 ∷ x.0, x.1)) (items_from one right n false a.0.1) (xs, rest) a.2 in
      let f = item-read one Q sound first text a.0.0 a.0.1 a.1 in
      items-front first text a.0.0 m.0.0 xs a.0.1 rest f (more false a.0.1 m.0.0 rest (m.1 ∙ ap (λ y. Some (m.0.0, y)) (ap (λ y. y.1) m.2))) (ap (λ y. y.0) m.2)

  items-read : (n : ℕ) (first : Bool) (text : List ℕ) (xs : List X) (rest : List ℕ) → items_from one right n first text ≡ Some (xs, rest) → AreInFront first text xs rest
  items-read zero first text xs rest e = absurd (none-some _ e)
  items-read (suc n) first text xs rest e = items-cases n (items-read n) first text xs rest (behind_sign right text) refl e

  list-made : (left : ℕ) (text blanks r inner : List ℕ) (xs : List X) (rest : List ℕ) → text ≡ left ∷ (blanks ++ r) → AreBlanks blanks → r ≡ inner ++ right ∷ rest → SpellsItems Q true xs inner
      → (spelling : List ℕ) × (text ≡ spelling ++ rest) × SpellsList Q left right xs spelling
  list-made left text blanks r inner xs rest t a i s = (left ∷ blanks ++ inner ++ right ∷ [], rw (t, i) (simp append_assoc), (blanks, inner, refl, a, s))

  pub list-read : (left n : ℕ) → IsSoundAt (list_at one left right n) (SpellsList Q left right)
  unfolding list_at
  list-read left n text xs rest e =
      let a = bind-some (behind_opening left text) (items_from one right n true) (xs, rest) e in
      let o = opening-read left text a.0 a.1 in
      let i = items-read n true a.0 xs rest a.2 in
      list-made left text o.0 a.0 i.0 xs rest o.1 o.2 i.1 i.2

entry-front : (text key k before k' r behind r' item rest : List ℕ) → text ≡ key ++ k → k ≡ before ++ k' → k' ≡ 58 ∷ r → r ≡ behind ++ r' → r' ≡ item ++ rest
    → text ≡ (key ++ before ++ 58 ∷ behind ++ item) ++ rest
entry-front text key k before k' r behind r' item rest e1 e2 e3 e4 e5 = rw (e1, e2, e3, e4, e5) (simp append_assoc)

entry-made : (K V : Value → List ℕ → Type 0) (text : List ℕ) (k v : Value) (pair : Pair) (rest key before behind item : List ℕ) → text ≡ (key ++ before ++ 58 ∷ behind ++ item) ++ rest → entry k v ≡ pair
    → AreBlanks before → AreBlanks behind → K k key → V v item → (spelling : List ℕ) × (text ≡ spelling ++ rest) × SpellsEntry K V pair spelling
entry-made K V text k v pair rest key before behind item t e a b h g = rw (← e) (key ++ before ++ 58 ∷ behind ++ item, t, (key, before, behind, item, refl, a, b, h, g))

entry-read : (key item : List ℕ → Option (Value × List ℕ)) (K V : Value → List ℕ → Type 0) → IsSoundAt key K → IsSoundAt item V → IsSoundAt (entry_at key item) (SpellsEntry K V)
unfolding entry_at
entry-read key item K V sound_key sound_item text pair rest e =
    let k = bind-some (key text) (λ k. behind_sign 58 (behind_blanks k.1) >>= λ r. item (behind_blanks r) >>= λ x. Some (entry k.0 x.0, x.1)) (pair, rest) e in
    let r = bind-some (behind_sign 58 (behind_blanks k.0.1)) (λ r. item (behind_blanks r) >>= λ x. Some (entry k.0.0 x.0, x.1)) (pair, rest) k.2 in
    let x = bind-some (item (behind_blanks r.0)) (λ x. Some (entry k.0.0 x.0, x.1)) (pair, rest) r.2 in
    let p = pair-some _ _ _ _ x.2 in
    let s = sound_key text k.0.0 k.0.1 k.1 in
    let before = blanks-read k.0.1 in
    let behind = blanks-read r.0 in
    let v = sound_item (behind_blanks r.0) x.0.0 x.0.1 x.1 in
    entry-made K V text k.0.0 x.0.0 pair rest s.0 before.0 behind.0 v.0
    (entry-front text s.0 k.0.1 before.0 (behind_blanks k.0.1) r.0 behind.0 (behind_blanks r.0) v.0 rest s.1 before.1 (behind_sign-is 58 _ r.0 r.1) behind.1 (v.1 ∙ ap (λ y. v.0 ++ y) p.1))
    p.0 before.2 behind.2 s.2 v.2

event-front : (text name a before a' b behind b' inner c rest : List ℕ) → text ≡ name ++ a → a ≡ before ++ a' → a' ≡ 40 ∷ b → b ≡ behind ++ b' → b' ≡ inner ++ c → c ≡ 41 ∷ rest
    → text ≡ (name ++ before ++ 40 ∷ behind ++ inner ++ 41 ∷ []) ++ rest
event-front text name a before a' b behind b' inner c rest e1 e2 e3 e4 e5 e6 = rw (e1, e2, e3, e4, e5, e6) (simp append_assoc)

event-made : (P : Speller) (event : EventShape) (text : List ℕ) (xs : List Value) (rest before behind inner : List ℕ) → text ≡ (event.name ++ before ++ 40 ∷ behind ++ inner ++ 41 ∷ []) ++ rest
    → AreBlanks before → AreBlanks behind → SpellsFields P true event.fields xs inner → (spelling : List ℕ) × (text ≡ spelling ++ rest) × SpellsEvent P event xs spelling
event-made P event text xs rest before behind inner e a b f = (event.name ++ before ++ 40 ∷ behind ++ inner ++ 41 ∷ [], e, (before, behind, inner, refl, a, b, f))

pub event-read : (one : Reader) (P : Speller) → IsSound one P → (event : EventShape) (text : List ℕ) (xs : List Value) (rest : List ℕ) → event_at one event text ≡ Some (xs, rest)
    → (spelling : List ℕ) × (text ≡ spelling ++ rest) × SpellsEvent P event xs spelling
unfolding event_at
event-read one P sound event text xs rest e =
    let a = bind-some (behind_name event.name text) (λ a. behind_opening 40 (behind_blanks a) >>= λ b. fields_from one true event.fields b >>= λ x. behind_sign 41 x.1 >>= λ c. Some (x.0, c)) (xs, rest) e in
    let b = bind-some (behind_opening 40 (behind_blanks a.0)) (λ b. fields_from one true event.fields b >>= λ x. behind_sign 41 x.1 >>= λ c. Some (x.0, c)) (xs, rest) a.2 in
    let x = bind-some (fields_from one true event.fields b.0) (λ x. behind_sign 41 x.1 >>= λ c. Some (x.0, c)) (xs, rest) b.2 in
    let c = bind-some (behind_sign 41 x.0.1) (λ c. Some (x.0.0, c)) (xs, rest) x.2 in
    let p = pair-some _ _ _ _ c.2 in
    let before = blanks-read a.0 in
    let behind = opening-read 40 (behind_blanks a.0) b.0 b.1 in
    let f = fields-read one P sound true event.fields b.0 xs x.0.1 (x.1 ∙ ap (λ y. Some (y, x.0.1)) p.0) in
    event-made P event text xs rest before.0 behind.0 f.0
    (event-front text event.name a.0 before.0 (behind_blanks a.0) (behind.0 ++ b.0) behind.0 b.0 f.0 x.0.1 rest (behind_name-is event.name text a.0 a.1) before.1
    behind.1 refl f.1 (behind_sign-is 41 x.0.1 c.0 c.1 ∙ ap (λ y. 41 ∷ y) p.1))
    before.2 behind.2 f.2

typed-read : (one : Reader) (P : Speller) → IsSound one P → (types : List EventShape) (n : ℕ) (event : Option EventShape) (text : List ℕ) (x : Value) (rest : List ℕ) → slice_get types n ≡ event
    → typed_at one n event text ≡ Some (x, rest) → (spelling : List ℕ) × (text ≡ spelling ++ rest) × SpellsForm P types (EventForm n) x spelling
typed-read one P sound types n None text x rest g e = absurd (none-some _ e)
typed-read one P sound types n (Some event) text x rest g e =
    let a = bind-some (event_at one event text) (λ y. Some (value.Event n y.0, y.1)) (x, rest) e in
    let p = pair-some _ _ _ _ a.2 in
    let s = event-read one P sound event text a.0.0 a.0.1 a.1 in
    (s.0, s.1 ∙ ap (λ y. s.0 ++ y) p.1, (event, a.0.0, g, sym p.0, s.2))

form-read : (one : Reader) (P : Speller) → IsSound one P → (n : ℕ) (types : List EventShape) (form : Form) (text : List ℕ) (x : Value) (rest : List ℕ) → form_at one n types form text ≡ Some (x, rest)
    → (spelling : List ℕ) × (text ≡ spelling ++ rest) × SpellsForm P types form x spelling
form-read one P sound n types IntegerForm text x rest e =
    let a = bind-some (integer_at text) (λ y. Some (value.Integer y.0, y.1)) (x, rest) e in
    let p = pair-some _ _ _ _ a.2 in
    let s = integer-read text a.0.0 a.0.1 a.1 in
    (s.0, s.1 ∙ ap (λ y. s.0 ++ y) p.1, (a.0.0, sym p.0, s.2))
form-read one P sound n types BooleanForm text x rest e =
    let a = bind-some (truth_at text) (λ y. Some (value.Boolean y.0, y.1)) (x, rest) e in
    let p = pair-some _ _ _ _ a.2 in
    (truth_text a.0.0, truth-read text a.0.0 a.0.1 a.1 ∙ ap (λ y. truth_text a.0.0 ++ y) p.1, (a.0.0, sym p.0, refl))
form-read one P sound n types TextForm text x rest e =
    let a = bind-some (string_at text) (λ y. Some (value.Text y.0, y.1)) (x, rest) e in
    let p = pair-some _ _ _ _ a.2 in
    let s = string-read text a.0.0 a.0.1 a.1 in
    (s.0, s.1 ∙ ap (λ y. s.0 ++ y) p.1, (a.0.0, sym p.0, s.2))
form-read one P sound n types (SequenceForm element) text x rest e =
    let a = bind-some (list_at (one element) 91 93 n text) (λ y. Some (value.Sequence y.0, y.1)) (x, rest) e in
    let p = pair-some _ _ _ _ a.2 in
    let s = list-read (one element) (P element) (sound element) 93 91 n text a.0.0 a.0.1 a.1 in
    (s.0, s.1 ∙ ap (λ y. s.0 ++ y) p.1, (a.0.0, sym p.0, s.2))
form-read one P sound n types (DictionaryForm key item) text x rest e =
    let a = bind-some (put_in [] (list_at (entry_at (one key) (one item)) 123 125 n text)) (λ y. Some (value.Dictionary y.0, y.1)) (x, rest) e in
    let p = pair-some _ _ _ _ a.2 in
    let m = map-some (λ y. (entered y.0, y.1)) (list_at (entry_at (one key) (one item)) 123 125 n text) a.0 a.1 in
    let s = list-read (entry_at (one key) (one item)) (SpellsEntry (P key) (P item)) (entry-read (one key) (one item) (P key) (P item) (sound key) (sound item)) 125 123 n text m.0.0 m.0.1 m.1 in
    (s.0, s.1 ∙ ap (λ y. s.0 ++ y) (ap (λ y. y.1) m.2 ∙ p.1), (m.0.0, sym p.0 ∙ ap value.Dictionary (sym (ap (λ y. y.0) m.2)), s.2))
form-read one P sound n types (EventForm k) text x rest e = typed-read one P sound types k (slice_get types k) text x rest refl e
form-read one P sound n types ContextForm text x rest e = absurd (none-some _ e)
form-read one P sound n types ListenerForm text x rest e = absurd (none-some _ e)

-- each value that is read is spelled so
pub value-read : (depth : ℕ) (types : List EventShape) → IsSound (value_from depth types) (SpellsWithin depth types)
unfolding value_from
value-read zero types form text x rest e = absurd (none-some _ e)
value-read (suc depth) types form text x rest e = form-read (value_from depth types) (SpellsWithin depth types) (value-read depth types) depth types form text x rest e
