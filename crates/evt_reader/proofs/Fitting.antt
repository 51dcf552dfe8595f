-- What is spelled fits its shape, and so the items of a file fit the program.
use Rattle.evt_reader.proofs.Common.{ℕ, ℤ, pos, inl, inr, zero, suc, List, [], Bool, true, false, Option, Some, None, Ok, sym, subst, flat_map, option_to_list, EventShape, Value, Item, Event, Time, arith, Spells, AreLines, GivesItems, IsLine, lines_of}
use Rattle.std.proofs.Common.{◌∷◌, ◌++◌, ◌^◌, ◌<◌, ◌≤◌, ◌≤ℤ◌, map, nat_le}
use Rattle.std.proofs.lemmas.Bool.{and_parts, leb-true}
use Rattle.std.proofs.lemmas.Int.{ints}
use Rattle.std.proofs.lemmas.Str.Parse.{digits_value_short, numerals_by_value, tells_digits}
use Rattle.std.specs.Str.Parse.{AllDigits, digits_value}
use Rattle.std.proofs.lemmas.List.Elements.{All-cons, All-nil}
use Rattle.epl_values.specs.declared.shape.Shape.{Shape, Shape-F, out-Shape, roll-Shape, roll-out-Shape}
use Rattle.epl_values.specs.declared.shape.Shape.TheFolds.{fold_out-Shape, map-Shape}
use Rattle.epl_values.specs.declared.shape.Shape.TheOpen as layer
use Rattle.epl_values.specs.declared.shape.Shape.TheVariants as shape
use Rattle.epl_values.specs.declared.shape.Field.{Field}
use Rattle.epl_values.specs.declared.value.Pair.{Pair}
use Rattle.typed_program.specs.declared.program.Program.{Program}
use Rattle.event_types.specs.Types.{fields_of}
use Rattle.value_shapes.specs.Fits.{Fit, AllFit}
use Rattle.value_shapes.proofs.Lists.{fit_nil, fit_cons}
use Rattle.value_shapes.proofs.Made.{boolean_fits, dictionary_made, event_made, integer_fits, is_event_fits, sequence_made, text_fits}
use Rattle.record_book.specs.Fits.{IsTime, ItemFits, ItemsFit}
use Rattle.event_types.specs.Types.{Form, form_of, form_step}
use Rattle.evt_text.specs.Entries.{entered}
use Rattle.evt_text.specs.Spelling.{SpellsEntry, SpellsFields, SpellsForm, SpellsWithin}
use Rattle.evt_text.proofs.Known.{IsKnown, entered_ascend, entered_each, list_each}
use Rattle.evt_reader.specs.Files.{AreItems, IsSent, IsTimeLine, SpellsTenths, time_after}

module _ (types : List EventShape) where
  -- what `P` spells fits the shape
  abbrev Inner : (Form → Value → List ℕ → Type 0) → Type 0
  Inner P = (s : Shape) (x : Value) (text : List ℕ) → P (form_of s) x text → Fit types x s

  -- the values of fields fit the shapes of the fields
  fields_fit : (P : Form → Value → List ℕ → Type 0) → Inner P → (first : Bool) (fields : List Field) (xs : List Value) (text : List ℕ) → SpellsFields P first fields xs text → AllFit types xs (map (λ f. f.shape) fields)
  fields_fit P inner first [] [] text h = fit_nil types
  fields_fit P inner first [] (x ∷ xs) text h = absurd h
  fields_fit P inner first (field ∷ fields) [] text h = absurd h
  fields_fit P inner first (field ∷ fields) (x ∷ xs) text (lead, spelling, blanks, rest, whole, leads, spells, are, more) =
      fit_cons types x xs field.shape (map (λ (f : Field). f.shape) fields) (inner field.shape x spelling spells) (fields_fit P inner false fields xs rest more)

  -- what is spelled for the outermost part of a shape fits it, if what is inside does
  layer_fits : (P : Form → Value → List ℕ → Type 0) → Inner P → (d : Shape-F Shape) (x : Value) (text : List ℕ) → SpellsForm P types (form_step (map-Shape Shape Form form_of d)) x text → Fit types x (roll-Shape d)
  layer_fits P inner layer.Integer x text (number, is, spells) =
      subst (Fit types x) (sym shape.rolls-Integer) (subst (λ v. Fit types v shape.Integer) (sym is) (integer_fits types number))
  layer_fits P inner layer.Boolean x text (truth, is, spells) =
      subst (Fit types x) (sym shape.rolls-Boolean) (subst (λ v. Fit types v shape.Boolean) (sym is) (boolean_fits types truth))
  layer_fits P inner layer.Text x text (bytes, is, spells) =
      subst (Fit types x) (sym shape.rolls-Text) (subst (λ v. Fit types v shape.Text) (sym is) (text_fits types bytes))
  layer_fits P inner (layer.Sequence element) x text (items, is, spells) =
      subst (Fit types x) (sym (shape.rolls-Sequence element)) (subst (λ v. Fit types v (shape.Sequence element)) (sym is)
      (sequence_made types items element (list_each (P (form_of element)) (λ (v : Value). Fit types v element) (inner element) 91 93 items text spells)))
  layer_fits P inner (layer.Dictionary key item) x text (entries, is, spells) =
      let K = λ (v : Value). Fit types v key in
      let V = λ (v : Value). Fit types v item in
      let known = list_each (SpellsEntry (P (form_of key)) (P (form_of item))) (IsKnown K V) (λ (p : Pair) (t : List ℕ) h. (inner key _ _ h.7, inner item _ _ h.8)) 123 125 entries text spells in
      subst (Fit types x) (sym (shape.rolls-Dictionary key item)) (subst (λ v. Fit types v (shape.Dictionary key item)) (sym is) (dictionary_made types (entered entries) key item (entered_each K V entries known) (entered_ascend entries)))
  layer_fits P inner (layer.Event n) x text (event, xs, there, is, (before, behind, inside, whole, blanks, more, spells)) =
      let fields = subst (λ (o : Option EventShape). AllFit types xs (map (λ f. f.shape) (fields_of o))) (sym there) (fields_fit P inner true event.fields xs inside spells) in
      subst (Fit types x) (sym (shape.rolls-Event n)) (subst (λ v. Fit types v (shape.Event n)) (sym is) (event_made types n xs event fields there))
  layer_fits P inner layer.Context x text h = absurd h
  layer_fits P inner layer.Listener x text h = absurd h

  -- what is spelled fits its shape, however deep it nests
  within_fits : (depth : ℕ) → Inner (SpellsWithin depth types)
  within_fits zero s x text h = absurd h
  within_fits (suc depth) s x text h =
      let opened = subst (λ (f : Form). SpellsForm (SpellsWithin depth types) types f x text) (fold_out-Shape Form form_step s) h in
      subst (Fit types x) (roll-out-Shape s) (layer_fits (SpellsWithin depth types) (within_fits depth) (out-Shape s) x text opened)

  -- what a text spells for a shape fits the shape
  pub spelled_fits : (s : Shape) (x : Value) (spelling : List ℕ) → Spells types s x spelling → Fit types x s
  spelled_fits s x spelling (depth, h) = within_fits depth s x spelling h

-- so many seconds and tenths are a time
tenths-below : (tenths : ℕ) (text : List ℕ) → SpellsTenths tenths text → tenths ≤ 9
tenths-below tenths text (inl (none, is)) = omega arith
tenths-below tenths text (inr (digit, zeros, whole, is, are, value)) = let high : digit ≤ 57 = leb-true digit 57 (and_parts (nat_le 48 digit) (nat_le digit 57) is).1 in omega arith

time_fits : (time : ℕ) (rest : List ℕ) → IsTimeLine time rest → IsTime (pos time)
time_fits time rest (before, spelling, behind, end, whole, blanks, (seconds, point, tenths, cut, are, short, spells, is), more, last) =
    let below : digits_value 10 seconds < 10 ^ 12 = digits_value_short (numerals_by_value (AllDigits 10) tells_digits) seconds 12 are.1 short in
    let few = tenths-below tenths point spells in
    let least : pos 0 ≤ℤ pos time = omega (arith, ints) in
    let most : time < 10 ^ 13 = omega arith in
    (least, omega (arith, ints))

module _ (program : Program) where
  -- an event that is sent fits
  sent_fits : (rest channel : List ℕ) (x : Value) → IsSent program.types rest channel x → ItemFits program (Event channel x)
  sent_fits rest channel x (inl (empty, (spelling, behind, cut, more, number, spells))) = is_event_fits program.types x number (spelled_fits program.types (shape.Event number) x spelling spells)
  sent_fits rest channel x (inr (string, before, gap, event, whole, is, blanks, more, (spelling, behind, cut, end, number, spells))) =
      is_event_fits program.types x number (spelled_fits program.types (shape.Event number) x spelling spells)

  -- the item of a line fits, in front of items that do
  line_fits : (last : ℤ) (line : List ℕ) (meant : Option Item) (items : List Item) → IsLine program.types last line meant → ItemsFit program items → ItemsFit program (option_to_list meant ++ items)
  line_fits last line None items h a = a
  line_fits last line (Some (Event channel x)) items (text, blanks, rest, whole, are, sent) a = All-cons (ItemFits program) (Event channel x) items (sent_fits rest channel x sent) a
  line_fits last line (Some (Time t)) items (text, blanks, rest, whole, are, (time, is, timed, later)) a = All-cons (ItemFits program) (Time t) items (subst IsTime (sym is) (time_fits time rest timed)) a

  -- the items of lines fit
  lines_fit : (last : ℤ) (lines : List (List ℕ)) (meant : List (Option Item)) → AreLines program.types last lines meant → ItemsFit program (flat_map option_to_list meant)
  lines_fit last [] [] h = All-nil (ItemFits program)
  lines_fit last [] (m ∷ ms) h = absurd h
  lines_fit last (l ∷ ls) [] h = absurd h
  lines_fit last (l ∷ ls) (m ∷ ms) h = line_fits last l m (flat_map option_to_list ms) h.0 (lines_fit (time_after last m) ls ms h.1)

  -- the items of a file are events of the program's types, and times
  pub items_fit : (bytes : List ℕ) (items : List Item) → AreItems program.types bytes items → ItemsFit program items
  items_fit bytes items (meant, lines, is) = subst (ItemsFit program) (sym is) (lines_fit (pos 0) (lines_of bytes) meant lines)

-- the same of an answer
pub gives_fit : (program : Program) (bytes : List ℕ) (items : List Item) → GivesItems program.types bytes (Ok items) → ItemsFit program items
gives_fit program bytes items h = items_fit program bytes items h.0
