-- A program and items that the words and the files give are run, where nothing fails.
use Rattle.std.proofs.Common.{◌≡◌, ◌⊎◌, ℕ, zero, suc, List, [], ◌∷◌, Bool, true, false, Option, Some, None, slice_get, inl, inr, length, arith, refl, sym, ◌∙◌, ap, subst}
use Rattle.std.specs.Prelude.{nat_eq, if◌then◌else◌}
use Rattle.std.proofs.lemmas.Option.{same_Some, none-some}
use Rattle.outside.specs.Counts.{Counts, Rose}
use Rattle.outside.specs.Told.{Told, files_of}
use Rattle.typed_program.specs.declared.program.Program.{Program}
use Rattle.record_book.specs.declared.item.Item.{Item}
use Rattle.record_book.specs.declared.record.Record.{Record}
use Rattle.evt_reader.specs.Files.{AreItems}
use Rattle.program_reader.specs.Programs.{IsProgram}
use Rattle.run_face.specs.Words.{Named, named_files}
use Rattle.correlator_run.specs.declared.refusal.Refusal.{Refusal}
use Rattle.correlator_run.specs.declared.refusal.Refusal.TheVariants as refusal
use Rattle.correlator_run.specs.Inputs.{Files, Wanted, wanted_of, AreRead, IsInput}
use Rattle.correlator_run.specs.Causes.{IsCause, IsLonger, status_of}
use Rattle.correlator_run.specs.Completing.{Completes, IsComplete, Stayed, WordsStatus}
use Rattle.correlator_run.specs.Promise.{Answers, Outside, Output, IsWritten, KeepsPromise, is_spent}

-- the bytes of files are the only ones
only-read : (files : Files) (ws : List Wanted) (texts others : List (List ℕ)) → AreRead (Some files) ws texts → AreRead (Some files) ws others → texts ≡ others
only-read files [] [] [] t o = refl
only-read files [] [] (b ∷ others) t o = absurd o
only-read files [] (a ∷ texts) others t o = absurd t
only-read files (w ∷ ws) [] others t o = absurd t
only-read files (w ∷ ws) (a ∷ texts) [] t o = absurd o
only-read files (w ∷ ws) (a ∷ texts) (b ∷ others) t o =
    let heads : a ≡ b = same_Some _ _ (sym t.1 ∙ o.1) in
    let tails = only-read files ws texts others t.2 o.2 in
    λ i. heads i ∷ tails i

-- a file among those that are read is there, with no more bytes than it may have
not-missing : (files : Files) (ws : List Wanted) (texts : List (List ℕ)) (place : ℕ) (w : Wanted) → AreRead (Some files) ws texts → slice_get ws place ≡ Some w → files w.name ≡ None → ⊥
not-missing files [] texts place w t at none = absurd (none-some _ at)
not-missing files (x ∷ ws) [] place w t at none = absurd t
not-missing files (x ∷ ws) (b ∷ texts) zero w t at none =
    let same : x ≡ w = same_Some _ _ at in
    let both : ◌≡◌ {A = Option (List ℕ)} None (Some b) = sym none ∙ ap (λ (v : Wanted). files v.name) (sym same) ∙ t.1 in absurd (none-some _ both)
not-missing files (x ∷ ws) (b ∷ texts) (suc place) w t at none = not-missing files ws texts place w t.2 at none

not-longer : (files : Files) (ws : List Wanted) (texts : List (List ℕ)) (place : ℕ) (w : Wanted) → AreRead (Some files) ws texts → slice_get ws place ≡ Some w → IsLonger (files w.name) w.most → ⊥
not-longer files [] texts place w t at long = absurd (none-some _ at)
not-longer files (x ∷ ws) [] place w t at long = absurd t
not-longer files (x ∷ ws) (b ∷ texts) zero w t at long =
    let same : x ≡ w = same_Some _ _ at in
    let bytes : b ≡ long.0 = same_Some _ _ (sym t.1 ∙ ap (λ (v : Wanted). files v.name) same ∙ long.1) in
    let lengths : length b ≡ length long.0 = ap length bytes in
    let mosts : x.most ≡ w.most = ap (λ (v : Wanted). v.most) same in
    let within = t.0 in
    let over = long.2 in
    absurd (omega arith)
not-longer files (x ∷ ws) (b ∷ texts) (suc place) w t at long = not-longer files ws texts place w t.2 at long

-- the first of two read files and those behind it
second-read : (e f : List ℕ) (texts others : List (List ℕ)) → (e ∷ texts) ≡ (f ∷ others) → (e ≡ f) × (texts ≡ others)
second-read e f texts others same = (ap head same, ap tail same)
  where
    head : List (List ℕ) → List ℕ
    head [] = e
    head (x ∷ xs) = x

    tail : List (List ℕ) → List (List ℕ)
    tail [] = texts
    tail (x ∷ xs) = xs

-- a count that rose didn't stay
rose-stayed : (before now : ℕ) → Rose before now → Stayed before now → ⊥
rose-stayed before now rose stayed = let low = stayed.0 in let same = stayed.1 in absurd (grind arith)

module _ (words : List (List ℕ)) (files : Files) (begun : Option Told) (n : Named) (p : Program) (items : List Item) (named : named_files words ≡ Some n) (input : IsInput (Some files) n p items) where
  -- what is read of the files that another name of the words would name
  no-named : (other : Named) → named_files words ≡ Some other → other ≡ n
  no-named other at = same_Some _ _ (sym at ∙ named)

  -- with a program and items there is no cause but a failed read and want of memory
  complete-cause : (why : Refusal) (status : ℕ) → IsCause words (Some files) begun why → status ≡ status_of why → (nat_eq (status_of why) 5 ≡ false) → IsComplete status
  complete-cause refusal.Words status cause is unread = let both : ◌≡◌ {A = Option Named} None (Some n) = sym cause ∙ named in absurd (none-some _ both)
  complete-cause (refusal.Missing name) status cause is unread =
      let k = cause.2 in
      let there : slice_get (wanted_of n) k.place ≡ Some k.wanted = ap (λ (m : Named). slice_get (wanted_of m) k.place) (sym (no-named cause.0 cause.1)) ∙ k.there in
      absurd (not-missing files (wanted_of n) (input.events ∷ input.texts) k.place k.wanted input.read there k.says)
  complete-cause (refusal.Read name) status cause is unread = absurd (cc)
  complete-cause (refusal.TooLong name) status cause is unread =
      let k = cause.2 in
      let there : slice_get (wanted_of n) k.place ≡ Some k.wanted = ap (λ (m : Named). slice_get (wanted_of m) k.place) (sym (no-named cause.0 cause.1)) ∙ k.there in
      absurd (not-longer files (wanted_of n) (input.events ∷ input.texts) k.place k.wanted input.read there k.says)
  complete-cause (refusal.Program name fault) status cause is unread =
      let k = cause.2 in
      let read : AreRead (Some files) (wanted_of n) (k.events ∷ k.texts) = subst (λ (m : Named). AreRead (Some files) (wanted_of m) (k.events ∷ k.texts)) (no-named cause.0 cause.1) k.read in
      let same = second-read _ _ _ _ (only-read files (wanted_of n) _ _ input.read read) in
      absurd (k.none p (subst (λ texts. IsProgram texts p) same.1 input.is_program))
  complete-cause (refusal.Events name line) status cause is unread =
      let k = cause.2 in
      let read : AreRead (Some files) (wanted_of n) (k.events ∷ k.texts) = subst (λ (m : Named). AreRead (Some files) (wanted_of m) (k.events ∷ k.texts)) (no-named cause.0 cause.1) k.read in
      let same = second-read _ _ _ _ (only-read files (wanted_of n) _ _ input.read read) in
      let program : p ≡ k.program = k.only_program p (subst (λ texts. IsProgram texts p) same.1 input.is_program) in
      let here : AreItems p.types k.events items = subst (λ bytes. AreItems p.types bytes items) same.0 input.are_items in
      absurd (k.none items (subst (λ (q : Program). AreItems q.types k.events items) program here))
  complete-cause refusal.Memory status cause is unread = inr (inr is)

-- a written report is complete, where the output's count stayed
complete-written : (status : ℕ) (kept : Record) (report : List ℕ) (before after : Output) → IsWritten status kept report before after → Counts (nat_eq status 6) before.faults after.faults → Stayed before.faults after.faults → IsComplete status
complete-written status kept report before after (inl w) counts stayed = done (is_spent kept) w.0
  where
    done : (spent : Bool) → status ≡ (if spent then 7 else 0) → IsComplete status
    done true is = inr (inl is)
    done false is = inl is
complete-written status kept report before after (inr w) counts stayed =
    let rose = subst (λ (s : ℕ). Counts (nat_eq s 6) before.faults after.faults) w.0 counts in
    absurd (rose-stayed before.faults after.faults rose.1 stayed)

-- a status of a failed read where the count of faults stayed
unread-stayed : (b : Bool) (before now : ℕ) → Counts b before now → Stayed before now → b ≡ false
unread-stayed true before now counts stayed = absurd (rose-stayed before now counts.1 stayed)
unread-stayed false before now counts stayed = refl

pub completes : (words : List (List ℕ)) (before after : Outside) (status : ℕ) (kept : Option Record) → KeepsPromise words before after status kept → Stayed before.shelf.faults after.shelf.faults → Stayed before.out.faults after.out.faults → Completes words (files_of before.shelf.told) status
completes words before after status kept promise shelf_stayed out_stayed = go before.shelf.told kept promise.answer
  where
    go : (told : Option Told) (k : Option Record) → Answers words (record { shelf = record { faults = before.shelf.faults; missed = before.shelf.missed; told = told }; out = before.out }) after status k → Completes words (files_of told) status
    go None k a = record {}
    go (Some t) (Some r) a = λ n p items named input. complete-written status r _ before.out after.out a.2 promise.write out_stayed
    go (Some t) None a = λ n p items named input. complete-cause words t.files after.shelf.told n p items named input a.0 status a.2 a.1 (ap (λ s. nat_eq s 5) (sym a.1) ∙ unread-stayed (nat_eq status 5) before.shelf.faults after.shelf.faults promise.read shelf_stayed)

-- the words are refused exactly where they are no command
pub words_status : (words : List (List ℕ)) (before after : Outside) (status : ℕ) (kept : Option Record) → KeepsPromise words before after status kept → WordsStatus words status
words_status words before after status kept promise = go kept promise.answer
  where
    ran : (r : Record) (report : List ℕ) → IsWritten status r report before.out after.out → status ≡ 1 → ⊥
    ran r report (inl w) one = done (is_spent r) w.0
      where
        done : (spent : Bool) → status ≡ (if spent then 7 else 0) → ⊥
        done true is = let both : ◌≡◌ {A = ℕ} 1 7 = sym one ∙ is in absurd (omega arith)
        done false is = let both : ◌≡◌ {A = ℕ} 1 0 = sym one ∙ is in absurd (omega arith)
    ran r report (inr w) one = let both : ◌≡◌ {A = ℕ} 1 6 = sym one ∙ w.0 in absurd (omega arith)

    named : (n : Named) → named_files words ≡ Some n → named_files words ≡ None → (status ≡ 1) ⊎ (status ≡ 4)
    named n at none = let both : ◌≡◌ {A = Option Named} None (Some n) = sym none ∙ at in absurd (none-some _ both)

    cause : (why : Refusal) → status ≡ status_of why → IsCause words (files_of before.shelf.told) after.shelf.told why → WordsStatus words status
    cause refusal.Words is c = record { refused = λ one. c; only = λ none. inl is }
    cause (refusal.Missing name) is c = record { refused = λ one. let both : ◌≡◌ {A = ℕ} 1 8 = sym one ∙ is in absurd (omega arith); only = named c.0 c.1 }
    cause (refusal.Read name) is c = record { refused = λ one. let both : ◌≡◌ {A = ℕ} 1 5 = sym one ∙ is in absurd (omega arith); only = named c.0 c.1 }
    cause (refusal.TooLong name) is c = record { refused = λ one. let both : ◌≡◌ {A = ℕ} 1 9 = sym one ∙ is in absurd (omega arith); only = named c.0 c.1 }
    cause (refusal.Program name why) is c = record { refused = λ one. let both : ◌≡◌ {A = ℕ} 1 2 = sym one ∙ is in absurd (omega arith); only = named c.0 c.1 }
    cause (refusal.Events name line) is c = record { refused = λ one. let both : ◌≡◌ {A = ℕ} 1 3 = sym one ∙ is in absurd (omega arith); only = named c.0 c.1 }
    cause refusal.Memory is c = record { refused = λ one. let both : ◌≡◌ {A = ℕ} 1 4 = sym one ∙ is in absurd (omega arith); only = λ none. inr is }

    go : (k : Option Record) → Answers words before after status k → WordsStatus words status
    go (Some r) a = record { refused = λ one. absurd (ran r _ a.2 one); only = named a.1.named a.1.is }
    go None a = cause a.0 a.1 a.2
