-- What the actors of a record send, in the theory and in its own words.
use Rattle.std.proofs.Common.{◌≡◌, ◌≤◌, ◌∷◌, ◌++◌, ◌⊎◌}
use Rattle.naive_meaning.proofs.Common.{ℕ, List, [], refl, sym, ◌∙◌, ap, inr, map, length, eq-eqb, ne_eqb, Entry, ReaderStep, Cargo, Item, Program, Settings, Context, Sent, mail, number_after, numbers_along, replies, own, lifted, step_entry, step_number, fresh, handle, slots_of, item_sends, loads_below, actors_of, context_sends, items_send}
use Rattle.actor_theory.specs.Language.{sends as all_sends, to_self}
use Rattle.actor_theory.specs.Joined.{slots_only, to_actors, to_slots}
use Rattle.actor_theory.specs.declared.entry.ReaderStep.TheVariants as step
use Rattle.actor_theory.proofs.Given.{mail-append}
use Rattle.actor_theory.proofs.Joining.{mail-to_actors, slot_moment, reader_moment}
use Rattle.naive_meaning.proofs.Carried.{cargoes, cargoes-append, cargoes-lifted, cargoes-mail, cargoes-items}

-- what the actors of a program have sent of cargoes
context-replies : (p : Program) (settings : Settings) (s d : ℕ) → d ≤ settings.contexts → (c : Context) (last : ℕ) (log : List (Entry Cargo))
    → cargoes (replies (actors_of p settings) s d (slot_moment c last) (map lifted log)) ≡ context_sends p settings s d c last log
context-replies p settings s d le c last [] = refl
context-replies p settings s d le c last (e ∷ es) =
    let L = actors_of p settings in
    let n = number_after last e in
    let sent : List (Sent Cargo) = (slots_of p settings).sent c n e in
    let rest : List (Entry (Cargo ⊎ Item)) = replies L s d (slot_moment (handle p c n e.cargo) n) (map lifted es) in
    let head : cargoes {C = Cargo} {I = Item} (mail s n d (to_actors settings.contexts sent)) ≡ mail s n d sent = ap (cargoes {C = Cargo} {I = Item}) (mail-to_actors settings.contexts s n d sent le) ∙ cargoes-lifted Item (mail s n d sent) in
    cargoes-append (mail s n d (to_actors settings.contexts sent)) rest ∙ ap (λ xs. xs ++ cargoes rest) head ∙ ap (λ xs. mail s n d sent ++ xs) (context-replies p settings s d le (handle p c n e.cargo) n es)

-- what the items of the steps send
reader-replies : (p : Program) (settings : Settings) (d last : ℕ) (steps : List (ReaderStep Item Cargo)) → map step_number steps ≡ numbers_along last (map (step_entry settings.contexts) steps)
    → cargoes (replies (actors_of p settings) settings.contexts d (reader_moment tt last) (map (step_entry settings.contexts) steps)) ≡ items_send settings d steps
reader-replies p settings d last [] h = refl
reader-replies p settings d last (step.Item i n ∷ steps) h =
    let L = actors_of p settings in
    let k = settings.contexts in
    let e : Entry (Cargo ⊎ Item) = own k (inr i) in
    let number : n ≡ number_after last e = cc in
    let rest : map step_number steps ≡ numbers_along (number_after last e) (map (step_entry k) steps) = cc in
    let more : List (Entry (Cargo ⊎ Item)) = replies L k d (reader_moment tt (number_after last e)) (map (step_entry k) steps) in
    let sent : List (Sent Cargo) = slots_only k (item_sends k i) in
    cargoes-append (mail k (number_after last e) d (to_slots k (item_sends k i))) more
    ∙ ap (λ xs. xs ++ cargoes more) (cargoes-mail Item k (number_after last e) d sent ∙ ap (λ m. mail k m d sent) (sym number))
    ∙ ap (λ xs. mail k n d sent ++ xs) (reader-replies p settings d (number_after last e) steps rest)
reader-replies p settings d last (step.Entry e n ∷ steps) h =
    let rest : map step_number steps ≡ numbers_along (number_after last e) (map (step_entry settings.contexts) steps) = cc in
    reader-replies p settings d (number_after last e) steps rest

-- all that a context sends of cargoes
pub context-sent : (p : Program) (items : List Item) (settings : Settings) (s d : ℕ) (log : List (Entry Cargo)) → (s ≡ settings.contexts → ⊥) → d ≤ settings.contexts
    → cargoes (all_sends (actors_of p settings) (map inr items) s d (map lifted log)) ≡ context_sends p settings s d (fresh s settings.contexts settings.fuel) 0 log
context-sent p items settings s d log other le =
    rw (ne_eqb s settings.contexts other) (context-replies p settings s d le (fresh s settings.contexts settings.fuel) 0 log)

-- all that the reader sends of cargoes
pub reader-sent : (p : Program) (items : List Item) (settings : Settings) (d : ℕ) (steps : List (ReaderStep Item Cargo)) → map step_number steps ≡ numbers_along 0 (map (step_entry settings.contexts) steps)
    → cargoes (all_sends (actors_of p settings) (map inr items) settings.contexts d (map (step_entry settings.contexts) steps))
    ≡ mail settings.contexts 0 d (slots_only settings.contexts (loads_below (length p.monitors))) ++ items_send settings d steps
reader-sent p items settings d steps h =
    let k = settings.contexts in
    let own_ones : List (Sent (Cargo ⊎ Item)) = map (to_self k) (map inr items) in
    let loads : List (Sent (Cargo ⊎ Item)) = to_slots k (loads_below (length p.monitors)) in
    let more : List (Entry (Cargo ⊎ Item)) = replies (actors_of p settings) k d (reader_moment tt 0) (map (step_entry k) steps) in
    let before : cargoes (mail k 0 d (own_ones ++ loads)) ≡ mail k 0 d (slots_only k (loads_below (length p.monitors))) =
    ap cargoes (mail-append k 0 d own_ones loads) ∙ cargoes-append (mail k 0 d own_ones) (mail k 0 d loads) ∙ ap (λ xs. xs ++ cargoes (mail k 0 d loads)) (cargoes-items Cargo k k d items) ∙ cargoes-mail Item k 0 d (slots_only k (loads_below (length p.monitors))) in
    rw (eq-eqb k k refl) (cargoes-append (mail k 0 d (own_ones ++ loads)) more ∙ ap (λ xs. xs ++ cargoes more) before ∙ ap (λ xs. mail k 0 d (slots_only k (loads_below (length p.monitors))) ++ xs) (reader-replies p settings d 0 steps h))
