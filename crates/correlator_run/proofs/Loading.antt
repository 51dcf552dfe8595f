-- The exits of loading.
use Rattle.std.proofs.Common.{◌≡◌, ℕ, suc, List, [], ◌∷◌, map, take, Option, Some, None, slice_get, Result, Ok, Err, IfSome, refl, sym, ◌∙◌, ap, subst}
use Rattle.std.specs.Result.{IsErrAnd}
use Rattle.std.specs.Option.{option_map}
use Rattle.std.proofs.lemmas.Option.{slice_get-map}
use Rattle.std.proofs.lemmas.List.{take-map}
use Rattle.std.proofs.lemmas.Result.{err_from_is_err_and}
use Rattle.outside.specs.Told.{Told}
use Rattle.typed_program.specs.declared.program.Program.{Program}
use Rattle.record_book.specs.declared.item.Item.{Item}
use Rattle.run_face.specs.Words.{Named, named_files}
use Rattle.correlator_run.specs.declared.refusal.Refusal.{Refusal}
use Rattle.correlator_run.specs.declared.refusal.Refusal.TheVariants as refusal
use Rattle.correlator_run.specs.Inputs.{Files, most_events, Wanted, wanted_program, wanted_of, AreRead, IsOnlyInput}
use Rattle.correlator_run.specs.Causes.{IsCause}
use Rattle.correlator_run.specs.Steps.{FileRead, IsFirstUnread, TextsRead, ProgramTold, ItemsTold, WordsRead, Loads}

-- words that name no files
words_cause : (words : List (List ℕ)) (files : Option Files) (begun : Option Told) (why : Refusal) → WordsRead words (Err why) → IsCause words files begun why
words_cause words files begun refusal.Words t = t
words_cause words files begun (refusal.Missing name) t = absurd t
words_cause words files begun (refusal.Read name) t = absurd t
words_cause words files begun (refusal.TooLong name) t = absurd t
words_cause words files begun (refusal.Program name fault) t = absurd t
words_cause words files begun (refusal.Events name line) t = absurd t
words_cause words files begun refusal.Memory t = tt

-- a wanted file that isn't read, behind files that are
file_cause : (words : List (List ℕ)) (files : Option Files) (begun : Option Told) (n : Named) (place : ℕ) (w : Wanted) (texts : List (List ℕ)) (why : Refusal) → named_files words ≡ Some n → slice_get (wanted_of n) place ≡ Some w → AreRead files (take place (wanted_of n)) texts
    → FileRead files begun w.name w.most (Err why) → IsCause words files begun why
file_cause words files begun n place w texts refusal.Words at there before t = absurd t
file_cause words files begun n place w texts (refusal.Missing name) at there before t = (n, at, record { place = place; wanted = w; there = there; whose = t.0; texts = texts; before = before; last = t.1; says = t.2 })
file_cause words files begun n place w texts (refusal.Read name) at there before t = (n, at, record { place = place; wanted = w; there = there; whose = t.0; texts = texts; before = before; last = t.1; says = anything files })
  where
    anything : (fs : Option Files) → IfSome fs (λ fs. Unit {0})
    anything None = tt
    anything (Some fs) = tt
file_cause words files begun n place w texts (refusal.TooLong name) at there before t = (n, at, record { place = place; wanted = w; there = there; whose = t.0; texts = texts; before = before; last = t.1; says = t.2 })
file_cause words files begun n place w texts (refusal.Program name fault) at there before t = absurd t
file_cause words files begun n place w texts (refusal.Events name line) at there before t = absurd t
file_cause words files begun n place w texts refusal.Memory at there before t = tt

-- the event file and the program files are read
all_read : (files now : Option Files) (n : Named) (events : List ℕ) (texts : List (List ℕ)) → FileRead files None n.events most_events (Ok events) → now ≡ files → TextsRead now None n.programs (Ok texts) → AreRead files (wanted_of n) (events ∷ texts)
all_read files now n events texts first same second = (first.0, first.1, subst (λ (fs : Option Files). AreRead fs (map wanted_program n.programs) texts) same second)

module _ {P : Type 0} (view : P → Named × (Program × List Item)) (words : List (List ℕ)) (files : Option Files) (begun : Option Told) where
  -- a refusal with its cause
  refused : (why : Refusal) (r : Result P Refusal) → IsCause words files begun why → IsErrAnd r (λ e. e ≡ why) → Loads view words files begun r
  refused why r cause told = let p = err_from_is_err_and r told in rw (p.1, p.2) cause

  -- in place of the words
  pub words_refused : (why : Refusal) (r : Result P Refusal) → WordsRead words (Err why) → IsErrAnd r (λ e. e ≡ why) → Loads view words files begun r
  words_refused why r read told = refused why r (words_cause words files begun why read) told

  -- in place of the event file's bytes
  pub events_refused : (n : Named) (why : Refusal) (r : Result P Refusal) → named_files words ≡ Some n → FileRead files begun n.events most_events (Err why) → IsErrAnd r (λ e. e ≡ why) → Loads view words files begun r
  events_refused n why r named read told = refused why r (file_cause words files begun n 0 (record { name = n.events; most = most_events }) [] why named refl tt read) told

  -- in place of the bytes of the program files
  pub texts_refused : (now : Option Files) (n : Named) (events : List ℕ) (why : Refusal) (r : Result P Refusal) → named_files words ≡ Some n → FileRead files None n.events most_events (Ok events) → now ≡ files → IsFirstUnread now begun n.programs why
      → IsErrAnd r (λ e. e ≡ why) → Loads view words files begun r
  texts_refused now n events why r named first same second told = refused why r (file_cause words files begun n (suc fault.place) (wanted_program fault.name) (events ∷ fault.texts) why named there before fault.read) told
    where
      fault : IsFirstUnread files begun n.programs why
      fault = subst (λ (fs : Option Files). IsFirstUnread fs begun n.programs why) same second

      there : slice_get (wanted_of n) (suc fault.place) ≡ Some (wanted_program fault.name)
      there = slice_get-map wanted_program n.programs fault.place ∙ ap (option_map wanted_program) fault.there

      before : AreRead files (take (suc fault.place) (wanted_of n)) (events ∷ fault.texts)
      before = (first.0, first.1, subst (λ (ws : List Wanted). AreRead files ws fault.texts) (sym (take-map wanted_program fault.place n.programs)) fault.before)

  -- in place of the program
  pub program_refused : (now : Option Files) (n : Named) (events : List ℕ) (texts : List (List ℕ)) (why : Refusal) (r : Result P Refusal) → named_files words ≡ Some n → FileRead files None n.events most_events (Ok events) → now ≡ files → TextsRead now None n.programs (Ok texts)
      → ProgramTold texts n.programs (Err why) → IsErrAnd r (λ e. e ≡ why) → Loads view words files begun r
  program_refused now n events texts why r named first same second program told = refused why r (go why program) told
    where
      go : (w : Refusal) → ProgramTold texts n.programs (Err w) → IsCause words files begun w
      go refusal.Words t = absurd t
      go (refusal.Missing name) t = absurd t
      go (refusal.Read name) t = absurd t
      go (refusal.TooLong name) t = absurd t
      go (refusal.Program name fault) t = (n, named, record { events = events; texts = texts; read = all_read files now n events texts first same second; whose = t.0; cause = t.1; only_cause = t.3; none = t.2 })
      go (refusal.Events name line) t = absurd t
      go refusal.Memory t = tt

  -- in place of the items
  pub items_refused : (now : Option Files) (n : Named) (events seen : List ℕ) (texts : List (List ℕ)) (p : Program) (why : Refusal) (r : Result P Refusal) → named_files words ≡ Some n → FileRead files None n.events most_events (Ok events) → now ≡ files
      → TextsRead now None n.programs (Ok texts) → seen ≡ events → ProgramTold texts n.programs (Ok p) → ItemsTold p.types seen n.events (Err why) → IsErrAnd r (λ e. e ≡ why) → Loads view words files begun r
  items_refused now n events seen texts p why r named first same second is program items told = refused why r (go why (subst (λ x. ItemsTold p.types x n.events (Err why)) is items)) told
    where
      go : (w : Refusal) → ItemsTold p.types events n.events (Err w) → IsCause words files begun w
      go refusal.Words t = absurd t
      go (refusal.Missing name) t = absurd t
      go (refusal.Read name) t = absurd t
      go (refusal.TooLong name) t = absurd t
      go (refusal.Program name fault) t = absurd t
      go (refusal.Events name line) t = (
        n,
        named,
        record {
          events = events;
          texts = texts;
          read = all_read files now n events texts first same second;
          whose = t.0;
          program = p;
          is_program = program.0;
          only_program = program.1;
          refused = t.1;
          only_line = t.2;
          none = t.3;
        },
      )
      go refusal.Memory t = tt

-- a program and items
pub loaded : (words : List (List ℕ)) (files now : Option Files) (n : Named) (events seen : List ℕ) (texts : List (List ℕ)) (p : Program) (items : List Item) → named_files words ≡ Some n → FileRead files None n.events most_events (Ok events) → now ≡ files
    → TextsRead now None n.programs (Ok texts) → seen ≡ events → ProgramTold texts n.programs (Ok p) → ItemsTold p.types seen n.events (Ok items) → (named_files words ≡ Some n) × IsOnlyInput files n p items
loaded words files now n events seen texts p items named first same second is program_told items_told =
    let told = subst (λ (x : List ℕ). ItemsTold p.types x n.events (Ok items)) is items_told in (
      named,
      record {
        input =
            record {
              events = events;
              texts = texts;
              read = all_read files now n events texts first same second;
              is_program = program_told.0;
              are_items = told.0;
            };
        only_program = program_told.1;
        only_items = told.1;
      },
    )
