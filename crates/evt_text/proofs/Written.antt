-- The text of a value spells it.
use Rattle.std.proofs.Common.{◌≡◌, ◌<◌, ◌∷◌, ◌++◌, append-nil, subst}
use Rattle.evt_text.proofs.Common.{ℕ, zero, suc, List, [], length, map, true, Option, Some, None, refl, sym, ap, ◌∙◌, arith, append_assoc, length-append, AllByRecursion, slice_get, and_parts, eqb-true, none-some, same_Some, Field, EventShape, Shape, Value, Pair, out-Pair, Form, EventForm, SpellsWithin}
use Rattle.std.proofs.lemmas.Bool.{false≢true}
use Rattle.std.specs.List.{list_all}
use Rattle.epl_values.specs.declared.shape.Shape.{Shape-F, out-Shape}
use Rattle.epl_values.specs.declared.shape.Shape.TheFolds.{fold_out-Shape, map-Shape}
use Rattle.epl_values.specs.declared.shape.Shape.TheOpen as shape
use Rattle.epl_values.specs.declared.value.Value.{Value-F, every-Value, every_here-Value, every_held-Value, fold-roll-Value, ind-Value, map-Value, out-roll-Value, roll-Value}
use Rattle.epl_values.specs.declared.value.Value.TheOpen as layer
use Rattle.epl_values.specs.declared.value.Value.TheOpen.{Pair-F}
use Rattle.epl_values.specs.declared.value.Value.TheVariants as value
use Rattle.epl_values.specs.declared.value.Pair.{every-Pair, every_held-Pair, fold-roll-Pair, map-Pair, roll-Pair}
use Rattle.event_types.specs.Types.{form_of, form_step}
use Rattle.value_rules.specs.Shapes.{Fit, PairFit, all_fit, event_fits, fits, has, pair_fits, pair_has}
use Rattle.value_rules.specs.Texts.{name_in, pair_step, pair_text, text_in, text_step, with_commas}
use Rattle.evt_text.specs.Readable.{HasText, HaveTexts, IsReadable, IsWithinLimits, NothingAsked}
use Rattle.evt_text.specs.Spelling.{SpellsEntry, SpellsForm}
use Rattle.evt_text.proofs.Texts.{AreSpelled, each_shorter, entered_again, fields_spelled, inner_shorter, integer_spelled, list_spelled, string_spelled}

-- ---- parts within the limits

held : {A : Type 0} (P : A → Type 0) (zs : List ((v : A) × P v)) (items : List A) → map (λ z. z.0) zs ≡ items → AllByRecursion P items
held P [] items e = subst (AllByRecursion P) e tt
held P (z ∷ zs) items e = subst (AllByRecursion P) e (z.1, held P zs (map (λ z. z.0) zs) refl)

abbrev IsReadablePair : Pair → Type 0
IsReadablePair pair = IsReadable (out-Pair pair).key × IsReadable (out-Pair pair).value

abbrev Limited : Type 0
Limited = (v : Value) × every-Value IsWithinLimits NothingAsked v

abbrev LimitedPair : Type 0
LimitedPair = (p : Pair) × every-Pair IsWithinLimits NothingAsked p

pair_parts : (p : Pair) → every-Pair IsWithinLimits NothingAsked p → IsReadablePair p
unfolding IsReadable
pair_parts p h =
    let y = every_held-Pair IsWithinLimits NothingAsked p h in
    (subst IsReadable (ap (λ r. r.key) y.1) y.0.key.1, subst IsReadable (ap (λ r. r.value) y.1) y.0.value.1)

pairs_parts : (ps : List Pair) → AllByRecursion (every-Pair IsWithinLimits NothingAsked) ps → AllByRecursion IsReadablePair ps
pairs_parts [] h = tt
pairs_parts (p ∷ ps) h = (pair_parts p h.0, pairs_parts ps h.1)

-- what is readable below a layer
abbrev PartsReadable : Value-F Value Pair → Type 0
PartsReadable (layer.Sequence items) = AllByRecursion IsReadable items
PartsReadable (layer.Dictionary pairs) = AllByRecursion IsReadablePair pairs
PartsReadable (layer.Event n fields) = AllByRecursion IsReadable fields
PartsReadable v = Unit {0}

parts_held : (y : Value-F Limited LimitedPair) → PartsReadable (map-Value Limited LimitedPair Value Pair (λ e. e.0) (λ e. e.0) y)
unfolding IsReadable
parts_held (layer.Sequence zs) = held (every-Value IsWithinLimits NothingAsked) zs (map (λ z. z.0) zs) refl
parts_held (layer.Dictionary zs) = pairs_parts (map (λ z. z.0) zs) (held (every-Pair IsWithinLimits NothingAsked) zs (map (λ z. z.0) zs) refl)
parts_held (layer.Event n zs) = held (every-Value IsWithinLimits NothingAsked) zs (map (λ z. z.0) zs) refl
parts_held y = tt

parts_readable : (x : Value-F Value Pair) → IsReadable (roll-Value x) → PartsReadable x
unfolding IsReadable
parts_readable x h = let y = every_held-Value IsWithinLimits NothingAsked (roll-Value x) h in subst PartsReadable (y.1 ∙ out-roll-Value x) (parts_held y.0)

here_readable : (x : Value-F Value Pair) → IsReadable (roll-Value x) → IsWithinLimits x
unfolding IsReadable
here_readable x h = subst IsWithinLimits (out-roll-Value x) (every_here-Value IsWithinLimits NothingAsked (roll-Value x) h)

-- ---- the induction

module _ (types : List EventShape) (texts : HaveTexts types) where
  abbrev Written : Value → Type 0
  Written v = (s : Shape) (d : ℕ) → has types v s ≡ true → HasText (form_of s) → IsReadable v → length (text_in types v) < d → SpellsWithin d types (form_of s) v (text_in types v)

  abbrev PairWritten : Pair → Type 0
  PairWritten p = (key item : Shape) (d : ℕ) → pair_has types p key item ≡ true → HasText (form_of key) → HasText (form_of item) → IsReadablePair p → length (pair_text types p) < d
      → SpellsEntry (SpellsWithin d types (form_of key)) (SpellsWithin d types (form_of item)) p (pair_text types p)

  abbrev Known : Type 0
  Known = (v : Value) × Written v

  abbrev KnownPair : Type 0
  KnownPair = (p : Pair) × PairWritten p

  abbrev values_in : Value-F Known KnownPair → Value-F Value Pair
  values_in y = map-Value Known KnownPair Value Pair (λ e. e.0) (λ e. e.0) y

  abbrev parts_in : Pair-F Known KnownPair → Pair-F Value Pair
  parts_in y = map-Pair Known KnownPair Value Pair (λ e. e.0) (λ e. e.0) y

  abbrev tests : Value-F Value Pair → Value-F Fit PairFit
  tests x = map-Value Value Pair Fit PairFit (has types) (pair_has types) x

  abbrev parts_text : Value-F Value Pair → List ℕ
  parts_text x = text_step types (map-Value Value Pair (List ℕ) (List ℕ) (text_in types) (pair_text types) x)

  text_rolled : (x : Value-F Value Pair) → text_in types (roll-Value x) ≡ parts_text x
  text_rolled x = fold-roll-Value (List ℕ) (List ℕ) (text_step types) pair_step x

  has_rolled : (x : Value-F Value Pair) (s : Shape) → has types (roll-Value x) s ≡ fits types (tests x) (out-Shape s)
  has_rolled x s = ap (λ (f : Fit). f s) (fold-roll-Value Fit PairFit (λ v t. fits types v (out-Shape t)) pair_fits x)

  values_written : (zs : List Known) (s : Shape) (d : ℕ) → list_all (λ (part : Fit). part s) (map (has types) (map (λ z. z.0) zs)) ≡ true → HasText (form_of s) → AllByRecursion IsReadable (map (λ z. z.0) zs)
      → AllByRecursion (λ v. length (text_in types v) < d) (map (λ z. z.0) zs) → AllByRecursion (λ v. SpellsWithin d types (form_of s) v (text_in types v)) (map (λ z. z.0) zs)
  values_written [] s d h r a l = tt
  values_written (z ∷ zs) s d h r a l = let p = and_parts _ _ h in (z.1 s d p.0 r a.0 l.0, values_written zs s d p.1 r a.1 l.1)

  pairs_written : (zs : List KnownPair) (key item : Shape) (d : ℕ) → list_all (λ (pair : PairFit). pair key item) (map (pair_has types) (map (λ z. z.0) zs)) ≡ true → HasText (form_of key) → HasText (form_of item)
      → AllByRecursion IsReadablePair (map (λ z. z.0) zs) → AllByRecursion (λ p. length (pair_text types p) < d) (map (λ z. z.0) zs)
      → AllByRecursion (λ p. SpellsEntry (SpellsWithin d types (form_of key)) (SpellsWithin d types (form_of item)) p (pair_text types p)) (map (λ z. z.0) zs)
  pairs_written [] key item d h r q a l = tt
  pairs_written (z ∷ zs) key item d h r q a l = let p = and_parts _ _ h in (z.1 key item d p.0 r q a.0 l.0, pairs_written zs key item d p.1 r q a.1 l.1)

  fields_written : (zs : List Known) (fields : List Field) (d : ℕ) → all_fit (map (has types) (map (λ z. z.0) zs)) (map (λ f. f.shape) fields) ≡ true → AllByRecursion (λ f. HasText (form_of f.shape)) fields
      → AllByRecursion IsReadable (map (λ z. z.0) zs) → AllByRecursion (λ v. length (text_in types v) < d) (map (λ z. z.0) zs) → AreSpelled (SpellsWithin d types) (text_in types) fields (map (λ z. z.0) zs)
  fields_written [] [] d h r a l = tt
  fields_written [] (f ∷ fs) d h r a l = absurd (false≢true h)
  fields_written (z ∷ zs) [] d h r a l = absurd (false≢true h)
  fields_written (z ∷ zs) (f ∷ fs) d h r a l = let p = and_parts _ _ h in (z.1 f.shape d p.0 r.0 a.0 l.0, fields_written zs fs d p.1 r.1 a.1 l.1)

  texts_at : (ts : List EventShape) (n : ℕ) (event : EventShape) → HaveTexts ts → slice_get ts n ≡ Some event → AllByRecursion (λ f. HasText (form_of f.shape)) event.fields
  texts_at [] n event h e = absurd (none-some _ e)
  texts_at (t ∷ ts) zero event h e = rw (same_Some _ _ e) at h.0
  texts_at (t ∷ ts) (suc n) event h e = texts_at ts n event h.1 e

  event_size : (name inner : List ℕ) (d : ℕ) → length (name ++ 40 ∷ inner ++ 41 ∷ []) < suc d → length inner < d
  event_size name inner d lt =
      let whole : name ++ 40 ∷ inner ++ 41 ∷ [] ≡ name ++ (40 ∷ (inner ++ 41 ∷ [])) = simp append_assoc in
      omega (arith, ap length whole, length-append name (40 ∷ (inner ++ 41 ∷ [])), length-append inner (41 ∷ []))

  event_written : (n : ℕ) (o : Option EventShape) → slice_get types n ≡ o → (zs : List Known) (d : ℕ) → event_fits (map (has types) (map (λ z. z.0) zs)) o ≡ true → AllByRecursion IsReadable (map (λ z. z.0) zs)
      → length (name_in o ++ 40 ∷ with_commas (map (text_in types) (map (λ z. z.0) zs)) ++ 41 ∷ []) < suc d
      → SpellsForm (SpellsWithin d types) types (EventForm n) (roll-Value (layer.Event n (map (λ z. z.0) zs))) (name_in o ++ 40 ∷ with_commas (map (text_in types) (map (λ z. z.0) zs)) ++ 41 ∷ [])
  event_written n None e zs d h a lt = absurd (false≢true h)
  event_written n (Some event) e zs d h a lt =
      let xs = map (λ (z : Known). z.0) zs in
      let inner = with_commas (map (text_in types) xs) in
      let size = event_size event.name inner d lt in (
        event,
        xs,
        e,
        value.rolls-Event n xs,
        (
          [],
          [],
          inner,
          simp (append_assoc, append-nil),
          tt,
          tt,
          fields_spelled (SpellsWithin d types) (text_in types) event.fields xs
              (fields_written zs event.fields d h (texts_at types n event texts e) a (each_shorter (text_in types) d xs size)),
        ),
      )

  layer_written : (y : Value-F Known KnownPair) (l : Shape-F Shape) (d : ℕ) → fits types (tests (values_in y)) l ≡ true → HasText (form_step (map-Shape Shape Form form_of l)) → IsWithinLimits (values_in y) → PartsReadable (values_in y)
      → length (parts_text (values_in y)) < suc d → SpellsForm (SpellsWithin d types) types (form_step (map-Shape Shape Form form_of l)) (roll-Value (values_in y)) (parts_text (values_in y))
  layer_written (layer.Integer n) shape.Integer d h r a p lt = (n, value.rolls-Integer n, integer_spelled n a)
  layer_written (layer.Boolean b) shape.Boolean d h r a p lt = (b, value.rolls-Boolean b, refl)
  layer_written (layer.Text bytes) shape.Text d h r a p lt = (bytes, value.rolls-Text bytes, string_spelled bytes a)
  layer_written (layer.Sequence zs) (shape.Sequence element) d h r a p lt =
      let xs = map (λ (z : Known). z.0) zs in (
        xs,
        value.rolls-Sequence xs,
        list_spelled (SpellsWithin d types (form_of element)) (text_in types) 91 93 xs
            (values_written zs element d h r p (each_shorter (text_in types) d xs (inner_shorter 91 93 (with_commas (map (text_in types) xs)) d lt))),
      )
  layer_written (layer.Dictionary zs) (shape.Dictionary key item) d h r a p lt =
      let ps = map (λ (z : KnownPair). z.0) zs in (
        ps,
        value.rolls-Dictionary ps ∙ ap value.Dictionary (sym (entered_again ps a)),
        list_spelled (SpellsEntry (SpellsWithin d types (form_of key)) (SpellsWithin d types (form_of item))) (pair_text types) 123 125 ps
            (pairs_written zs key item d h r.0 r.1 p (each_shorter (pair_text types) d ps (inner_shorter 123 125 (with_commas (map (pair_text types) ps)) d lt))),
      )
  layer_written (layer.Event n zs) (shape.Event m) d h r a p lt =
      let q = and_parts _ _ h in
      subst (λ k. SpellsForm (SpellsWithin d types) types (EventForm k) (roll-Value (layer.Event n (map (λ (z : Known). z.0) zs))) (parts_text (layer.Event n (map (λ (z : Known). z.0) zs)))) (eqb-true n m q.0)
      (event_written n (slice_get types n) refl zs d q.1 p lt)
  layer_written (layer.Context slot) shape.Context d h r a p lt = absurd r
  layer_written layer.NoContext shape.Context d h r a p lt = absurd r
  layer_written (layer.Listener birth) shape.Listener d h r a p lt = absurd r
  layer_written y l d h r a p lt = absurd (false≢true h)

  rolled_written : (y : Value-F Known KnownPair) → Written (roll-Value (values_in y))
  rolled_written y s zero h r a lt = absurd (omega arith)
  rolled_written y s (suc d) h r a lt =
      let x = values_in y in
      let form = fold_out-Shape Form form_step s in
      let made = layer_written y (out-Shape s) d (sym (has_rolled x s) ∙ h) (subst HasText form r) (here_readable x a) (parts_readable x a) (subst (λ t. length t < suc d) (text_rolled x) lt) in
      subst (λ f. SpellsForm (SpellsWithin d types) types f (roll-Value x) (text_in types (roll-Value x))) (sym form)
      (subst (SpellsForm (SpellsWithin d types) types (form_step (map-Shape Shape Form form_of (out-Shape s))) (roll-Value x)) (sym (text_rolled x)) made)

  value_case : (x : Value-F Value Pair) (y : Value-F Known KnownPair) → values_in y ≡ x → Written (roll-Value x)
  value_case x y is = subst (λ (z : Value-F Value Pair). Written (roll-Value z)) is (rolled_written y)

  pair_size : (k v : List ℕ) (d : ℕ) → length (k ++ 58 ∷ v) < d → (length k < d) × (length v < d)
  pair_size k v d lt = let e = length-append k (58 ∷ v) in (omega arith, omega arith)

  rolled_pair : (y : Pair-F Known KnownPair) → PairWritten (roll-Pair (parts_in y))
  rolled_pair y key item d h r q a lt =
      let p = parts_in y in
      let text : pair_text types (roll-Pair p) ≡ text_in types y.key.0 ++ 58 ∷ text_in types y.value.0 = fold-roll-Pair (List ℕ) (List ℕ) (text_step types) pair_step p in
      let fit = ap (λ (f : PairFit). f key item) (fold-roll-Pair Fit PairFit (λ v t. fits types v (out-Shape t)) pair_fits p) in
      let both = and_parts (has types y.key.0 key) (has types y.value.0 item) (sym fit ∙ h) in
      let sizes = pair_size (text_in types y.key.0) (text_in types y.value.0) d (subst (λ t. length t < d) text lt) in (
        text_in types y.key.0,
        [],
        [],
        text_in types y.value.0,
        text ∙ simp (append_assoc, append-nil),
        tt,
        tt,
        y.key.1 key d both.0 r a.0 sizes.0,
        y.value.1 item d both.1 q a.1 sizes.1,
      )

  pair_case : (x : Pair-F Value Pair) (y : Pair-F Known KnownPair) → parts_in y ≡ x → PairWritten (roll-Pair x)
  pair_case x y is = subst (λ (z : Pair-F Value Pair). PairWritten (roll-Pair z)) is (rolled_pair y)

  -- the text of a value of a shape spells it
  pub value_written : (v : Value) → Written v
  value_written = ind-Value Written PairWritten value_case pair_case
