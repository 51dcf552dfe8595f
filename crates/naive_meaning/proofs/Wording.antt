-- What the theory calls faithful, in the record's own words.
use Rattle.std.proofs.Common.{◌≡◌, ◌≤◌, ◌<◌, ◌∷◌, ◌++◌, ◌⊎◌}
use Rattle.std.specs.List.{AllByRecursion}
use Rattle.naive_meaning.proofs.Common.{ℕ, suc, List, [], Option, IfSome, refl, sym, ◌∙◌, ap, subst, arith, inl, inr, map, length, cases_lt, Entry, ReaderStep, Cargo, Item, Program, Settings, Context, ContextRecord, Record, World, number_after, numbers_along, lifted, own, step_entry, step_number, fresh, slots_of, actors_of, log_of, part_at, received}
use Rattle.record_book.specs.declared.cargo.Line.{Line}
use Rattle.std.proofs.lemmas.List.{length-map}
use Rattle.actor_theory.specs.declared.entry.ReaderStep.TheVariants as step
use Rattle.actor_theory.specs.Faithful.{IsBoot, IsPrefix}
use Rattle.actor_theory.specs.Kept as kept
use Rattle.actor_theory.proofs.Keeping.{log-reader}
use Rattle.actor_theory.proofs.Leaving.{lifted-same}
use Rattle.naive_meaning.specs.Faithful.{FaithfulContext, FaithfulRecord, BeginsWith, naive}
use Rattle.naive_meaning.specs.Records.{IsFaithful, shown, slot_kept, kept_of}
use Rattle.naive_meaning.proofs.Ascending.{ordered-ascending}
use Rattle.naive_meaning.proofs.Bearing.{IsCargo}
use Rattle.naive_meaning.proofs.Booting.{boot_record, boot-count, boot-logs, boot-scheduled, log-kept, taken}
use Rattle.naive_meaning.proofs.Carried.{cargoes, cargoes-append, cargoes-lifted}
use Rattle.naive_meaning.proofs.Delivering.{world_of, log-of_slot, received-same, received-sent, all-cargoes}
use Rattle.naive_meaning.proofs.Parts.{kept-there, log-past, after-same, handled-numbers, steps-numbers, unspent-before}

-- a context's part
context-words : (p : Program) (settings : Settings) (slot : ℕ) (c : ContextRecord) → kept.IsNaive (slots_of p settings) shown slot (slot_kept c) → kept.IsSlotEnded settings.contexts (slots_of p settings) slot (slot_kept c) → FaithfulContext p settings slot c
context-words p settings slot c naive ended =
    let same = after-same p settings (fresh slot settings.contexts settings.fuel) 0 (log_of c) in
    record {
      lines = naive.shown ∙ sym (ap (λ (d : Context). d.lines) same);
      numbers_are = naive.numbers ∙ sym (handled-numbers 0 c.handled);
      spent = naive.spent ∙ sym (ap (λ (d : Context). d.spent) same);
      unspent = unspent-before p settings (fresh slot settings.contexts settings.fuel) 0 (log_of c) ended.unspent;
      ascending = ordered-ascending (suc settings.contexts) c.left ended.by_sender;
      nothing_left = ended.nothing_left;
    }

-- one more step in front of both
one-more : (e : Entry Cargo) (m n : ℕ) (front whole : List (ReaderStep Item Cargo)) → m ≡ n → IsPrefix front whole → IsPrefix (step.Entry e n ∷ front) (step.Entry e m ∷ whole)
one-more e m n front whole i h = (h.0, ap (λ j. step.Entry e j ∷ whole) i ∙ ap (λ xs. step.Entry e n ∷ xs) h.1)

-- the reader's steps go on from those of the entries that stand in front
steps-begin : (k last : ℕ) (es : List (Entry Cargo)) (steps : List (ReaderStep Item Cargo)) (rest : List (Entry (Cargo ⊎ Item))) → map step_number steps ≡ numbers_along last (map (step_entry k) steps) → map (step_entry k) steps ≡ map lifted es ++ rest → IsPrefix (taken last es) steps
steps-begin k last [] steps rest n h = (steps, refl)
steps-begin k last (e ∷ es) [] rest n h = absurd (cc)
steps-begin k last (e ∷ es) (step.Item i m ∷ steps) rest n h =
    let head : ◌≡◌ {A = Entry (Cargo ⊎ Item)} (own k (inr i)) (lifted e) = cc in
    let P : Cargo ⊎ Item → Type 0 = IsCargo in
    absurd (subst P (sym (ap (λ (x : Entry (Cargo ⊎ Item)). x.cargo) head)) tt)
steps-begin k last (e ∷ es) (step.Entry f m ∷ steps) rest n h =
    let head : ◌≡◌ {A = Entry (Cargo ⊎ Item)} (lifted f) (lifted e) = cc in
    let tail : map (step_entry k) steps ≡ map lifted es ++ rest = cc in
    let number : m ≡ number_after last f = cc in
    let numbers : map step_number steps ≡ numbers_along (number_after last f) (map (step_entry k) steps) = cc in
    let same : f ≡ e = lifted-same f e head in
    let P : Entry Cargo → Type 0 = λ x. IsPrefix (taken last (x ∷ es)) (step.Entry f m ∷ steps) in
    subst P same (one-more f m (number_after last f) (taken (number_after last f) es) steps number (steps-begin k (number_after last f) es steps rest numbers tail))

-- the record goes on from that of boot
boot-begins : (p : Program) (settings : Settings) (r : Record) (boot : World (Cargo ⊎ Item)) → IsBoot (actors_of p settings) boot → ((d : ℕ) → IsPrefix (boot.log d) ((world_of settings r).log d))
    → map step_number r.reader.steps ≡ numbers_along 0 (map (step_entry settings.contexts) r.reader.steps) → BeginsWith (boot_record p settings boot) r
boot-begins p settings r boot h front numbers = record { logs = λ slot. logs slot (cases_lt slot settings.contexts); steps = steps (front settings.contexts) }
  where
    k : ℕ
    k = settings.contexts

    logs : (slot : ℕ) → ((slot < settings.contexts) ⊎ (settings.contexts ≤ slot)) → IsPrefix (log_of (part_at (boot_record p settings boot) slot)) (log_of (part_at r slot))
    logs slot (inl lt) =
        let other : slot ≡ k → ⊥ = λ i. omega arith in
        let here : map lifted (log_of (part_at (boot_record p settings boot) slot)) ≡ boot.log slot = sym (log-of_slot settings (boot_record p settings boot) slot other) ∙ boot-logs p settings boot h slot in
        let log : log_of (part_at (boot_record p settings boot) slot) ≡ cargoes (boot.log slot) = sym (cargoes-lifted Item (log_of (part_at (boot_record p settings boot) slot))) ∙ ap cargoes here in
        let rest = (front slot).0 in
        let whole : map lifted (log_of (part_at r slot)) ≡ boot.log slot ++ rest = sym (log-of_slot settings r slot other) ∙ (front slot).1 in
        (cargoes rest, sym (cargoes-lifted Item (log_of (part_at r slot))) ∙ ap cargoes whole ∙ cargoes-append (boot.log slot) rest ∙ ap (λ es. es ++ cargoes rest) (sym log))
    logs slot (inr le) =
        let count = boot-count p settings boot in
        let none : log_of (part_at (boot_record p settings boot) slot) ≡ [] = log-past (boot_record p settings boot).contexts slot (omega arith) in
        (log_of (part_at r slot), ap (λ es. es ++ log_of (part_at r slot)) (sym none))

    steps : IsPrefix (boot.log settings.contexts) ((world_of settings r).log settings.contexts) → IsPrefix (taken 0 (cargoes (boot.log settings.contexts))) r.reader.steps
    steps f =
        let kept : map lifted (cargoes (boot.log k)) ≡ boot.log k = log-kept p settings boot h k in
        steps-begin k 0 (cargoes (boot.log k)) r.reader.steps f.0 numbers (sym (log-reader k (kept_of r)) ∙ f.1 ∙ ap (λ es. es ++ f.0) (sym kept))

-- a faithful record, in its own words
pub faithful-words : (p : Program) (items : List Item) (settings : Settings) (r : Record) → IsFaithful p items settings r → FaithfulRecord p items settings r
faithful-words p items settings r h = record {
  same_settings = h.same_settings;
  count = count;
  contexts = contexts;
  numbers_are = h.faithful.naive.numbers ∙ sym (steps-numbers settings.contexts 0 r.reader.steps);
  items_are = h.faithful.items_are;
  nothing_left = h.faithful.no_left;
  delivered = λ s d s_le d_le. received-sent p items settings r s d h.faithful.naive.numbers d_le (h.faithful.delivered.each s d);
  senders = λ d le. senders d;
  boot = (boot_record p settings h.faithful.boot.0, boot-scheduled p settings h.faithful.boot.0 h.faithful.boot.1, boot-begins p settings r h.faithful.boot.0 h.faithful.boot.1 h.faithful.boot.2 h.faithful.naive.numbers);
}
  where
    count : length r.contexts ≡ settings.contexts
    count = sym (length-map r.contexts slot_kept) ∙ h.faithful.naive.count

    contexts : (slot : ℕ) → slot < settings.contexts → FaithfulContext p settings slot (part_at r slot)
    contexts slot lt =
        let there = kept-there r slot (subst (λ n. slot < n) (sym count) lt) in
        let P : Option (kept.SlotKept (List Line) Cargo) → Type 0 = λ o. IfSome o (kept.IsNaive (slots_of p settings) shown slot) in
        let Q : Option (kept.SlotKept (List Line) Cargo) → Type 0 = λ o. IfSome o (kept.IsSlotEnded settings.contexts (slots_of p settings) slot) in
        context-words p settings slot (part_at r slot) (subst P there (h.faithful.naive.slots slot)) (subst Q there (h.faithful.ended slot))

    senders : (d : ℕ) → AllByRecursion (λ e. e.sender ≤ settings.contexts) (received settings r d)
    senders d =
        let P : List (Entry Cargo) → Type 0 = AllByRecursion (λ e. e.sender ≤ settings.contexts) in
        subst P (received-same settings r d) (all-cargoes settings.contexts ((world_of settings r).log d ++ (world_of settings r).queue d) (h.faithful.delivered.senders d))
