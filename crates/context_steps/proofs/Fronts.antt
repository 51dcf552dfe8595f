-- Loads, marks, and what waits in front.
use Rattle.std.proofs.Common.{◌+◌, ◌*◌, ◌<◌, ◌∷◌, ◌≡◌, ◌++◌, length}
use Rattle.context_steps.proofs.Common.{ℕ, ℤ, true, false, cond, List, [], Some, None, slice_get, refl, sym, ap, subst, ◌∙◌, arith, Value, Program, Context, ran, ContextFits, CanRunIn, Keeps}
use Rattle.std.specs.List.{All}
use Rattle.std.specs.Prelude.{◌==◌}
use Rattle.std.proofs.Common.{eqb-true}
use Rattle.typed_program.specs.declared.program.Monitor.{Monitor}
use Rattle.record_book.specs.declared.cargo.Cargo.{Cargo}
use Rattle.record_book.specs.declared.cargo.Cargo.TheVariants as cargo
use Rattle.record_book.specs.Fits.{CargoFits}
use Rattle.context_meaning.specs.declared.context.Waiting.TheVariants as waiting
use Rattle.context_meaning.specs.declared.context.Waiting.{Waiting}
use Rattle.record_book.specs.Fits.{IsTime}
use Rattle.term_meaning.specs.declared.stimulus.Stimulus.TheVariants as stimulus
use Rattle.context_meaning.specs.Contexts.{row_in_front, with_clock, with_front, with_instance}
use Rattle.context_meaning.specs.Fits.{InstanceFits, WaitingFits}
use Rattle.context_meaning.specs.Handling.{cargo_handled, defaults_in, event_turns, first_handled, front_handled, front_weight, load_handled, met, one_turn, settled, thing_handled, timed, unmatched}
use Rattle.context_meaning.specs.Turns.{turned}
use Rattle.std.proofs.lemmas.List.Elements.{All-head, All-nil, All-tail}
use Rattle.context_meaning.proofs.Handling.{with_front_fits}
use Rattle.context_meaning.proofs.Resting.{cargo_row, thing_row}
use Rattle.context_meaning.proofs.Settling.{first_falls, settled_empty, settled_step}
use Rattle.live_context.specs.Lent.{first_of, rest_of}
use Rattle.context_steps.specs.Calls.{turned_to}
use Rattle.context_steps.specs.Steps.{SettlesAs, begun_with}
use Rattle.context_steps.proofs.Calling.{instance_fits}

-- ---- loads

can_begin : (program : Program) (n : ℕ) (m : Monitor) (c : Context) → Keeps program → slice_get program.monitors n ≡ Some m → ContextFits program c → CanRunIn program (c.begun + 1) m.onload [] (with_instance n (defaults_in program m) c)
can_begin program n m c keeps there fit = λ i is.
    let fits : InstanceFits program (c.begun + 1) i = instance_fits program (c.begun + 1) (with_instance n (defaults_in program m) c) i (keeps.begun n m c there fit) is in
    record { may = keeps.onload n m c there fit i is; globals = fits.globals; number = fits.number }

-- `onload` may run where its instance began
pub can_load : (program : Program) (n : ℕ) (m : Monitor) (c d : Context) (globals locals : List Value) (instance : ℕ) → Keeps program → slice_get program.monitors n ≡ Some m → ContextFits program c → d ≡ with_instance n globals c → globals ≡ defaults_in program m → instance ≡ c.begun + 1 → locals ≡ [] → CanRunIn program instance m.onload locals d
can_load program n m c d globals locals instance keeps there fit d_is globals_is instance_is none =
    let first : CanRunIn program (c.begun + 1) m.onload [] (with_instance n (defaults_in program m) c) = can_begin program n m c keeps there fit in
    let second : CanRunIn program (c.begun + 1) m.onload [] d = subst (CanRunIn program (c.begun + 1) m.onload []) (sym (d_is ∙ ap (λ (g : List Value). with_instance n g c) globals_is)) first in
    let third : CanRunIn program instance m.onload [] d = subst (λ k. CanRunIn program k m.onload [] d) (sym instance_is) second in
    subst (λ (ls : List Value). CanRunIn program instance m.onload ls d) (sym none) third

-- and runs there
pub load_ran : (program : Program) (n : ℕ) (m : Monitor) (c d r : Context) (globals locals : List Value) (instance : ℕ) → d ≡ with_instance n globals c → globals ≡ defaults_in program m → instance ≡ c.begun + 1 → locals ≡ [] → r ≡ ran program instance m.onload locals d → r ≡ begun_with program n m c
load_ran program n m c d r globals locals instance d_is globals_is instance_is none so =
    so
    ∙ ap (λ k. ran program k m.onload locals d) instance_is
    ∙ ap (λ (ls : List Value). ran program (c.begun + 1) m.onload ls d) none
    ∙ ap (ran program (c.begun + 1) m.onload []) (d_is ∙ ap (λ (g : List Value). with_instance n g c) globals_is)

-- ---- turns of an event

-- where an ordinary template fitted, that is all
pub turns_fitted : (program : Program) (e : Value) (c d : Context) → turned_to d true ≡ turned program (stimulus.Event e) c → d ≡ event_turns program e c
turns_fitted program e c d so = ap (unmatched program e) so

-- and in a context that is spent
pub turns_spent : (program : Program) (e : Value) (c d : Context) → turned_to d false ≡ turned program (stimulus.Event e) c → d.spent ≡ true → d ≡ event_turns program e c
turns_spent program e c d so is = sym (ap (λ b. cond b d (one_turn program (stimulus.Unmatched e) d)) is) ∙ ap (unmatched program e) so

-- else unmatched ones are tried
pub turns_unmatched : (program : Program) (e : Value) (c d r : Context) → turned_to d false ≡ turned program (stimulus.Event e) c → d.spent ≡ false → r ≡ one_turn program (stimulus.Unmatched e) d → r ≡ event_turns program e c
turns_unmatched program e c d r so live last = last ∙ sym (ap (λ b. cond b d (one_turn program (stimulus.Unmatched e) d)) live) ∙ ap (unmatched program e) so

-- ---- the clock

-- a time is set
pub clock_fits : (program : Program) (now : ℤ) (c d : Context) → IsTime now → ContextFits program c → d ≡ with_clock now c → ContextFits program d
clock_fits program now c d time fit so = subst (ContextFits program) (sym so) (record { clock = time; instances = fit.instances; listeners = fit.listeners; row = fit.row; front = fit.front })

-- ---- the front

-- the first of some
taken_first : (ws : List Waiting) (w : Waiting) → Some w ≡ first_of ws → ws ≡ w ∷ rest_of ws
taken_first [] w is = absurd (cc)
taken_first (v ∷ vs) w is = let same : w ≡ v = cc in ap (λ (x : Waiting). x ∷ vs) (sym same)

taken_none : (ws : List Waiting) → None ≡ first_of ws → ws ≡ []
taken_none [] is = refl
taken_none (v ∷ vs) is = absurd (cc)

-- all that waits fits
front_fits : (program : Program) (c : Context) (w : Waiting) → ContextFits program c → Some w ≡ first_of c.front → All (WaitingFits program) (w ∷ rest_of c.front)
front_fits program c w fit is = subst (All (WaitingFits program)) (taken_first c.front w is) fit.front

-- the first fits
pub first_fits : (program : Program) (c : Context) (w : Waiting) → ContextFits program c → Some w ≡ first_of c.front → WaitingFits program w
first_fits program c w fit is = All-head (WaitingFits program) w (rest_of c.front) (front_fits program c w fit is)

-- and so does the context without it
pub rest_fits : (program : Program) (c d : Context) (w : Waiting) → ContextFits program c → Some w ≡ first_of c.front → d ≡ with_front (rest_of c.front) c → ContextFits program d
rest_fits program c d w fit is d_is = subst (ContextFits program) (sym d_is) (with_front_fits program (rest_of c.front) c (All-tail (WaitingFits program) w (rest_of c.front) (front_fits program c w fit is)) fit)

-- the first, taken and handled
first_as : (program : Program) (c d r : Context) (w : Waiting) → Some w ≡ first_of c.front → d ≡ with_front (rest_of c.front) c → r ≡ thing_handled program w d → r ≡ first_handled program c
first_as program c d r w is d_is so = so ∙ ap (thing_handled program w) d_is ∙ sym (ap (λ (ws : List Waiting). front_handled program ws c) (taken_first c.front w is))

some_wait : (c : Context) (w : Waiting) → Some w ≡ first_of c.front → 0 < length c.front
some_wait c w is = subst (λ (ws : List Waiting). 0 < length ws) (sym (taken_first c.front w is)) (omega arith)

-- it comes to the same in the end
pub first_same : (program : Program) (c d r : Context) (w : Waiting) → c.row ≡ [] → c.spent ≡ false → Some w ≡ first_of c.front → d ≡ with_front (rest_of c.front) c → r ≡ thing_handled program w d → settled program r ≡ settled program c
first_same program c d r w row lives is d_is so = ap (settled program) (first_as program c d r w is d_is so) ∙ sym (settled_step program c row lives (some_wait c w is))

-- with an empty row
pub first_row : (program : Program) (d r : Context) (w : Waiting) → r ≡ thing_handled program w d → r.row ≡ []
first_row program d r w so = ap (λ (x : Context). x.row) so ∙ thing_row program w d

-- and less is left
pub first_less : (program : Program) (c d r : Context) (w : Waiting) → c.row ≡ [] → Some w ≡ first_of c.front → d ≡ with_front (rest_of c.front) c → r ≡ thing_handled program w d → 2 * r.fuel + front_weight r.front < 2 * c.fuel + front_weight c.front
first_less program c d r w row is d_is so = subst (λ (x : Context). 2 * x.fuel + front_weight x.front < 2 * c.fuel + front_weight c.front) (sym (first_as program c d r w is d_is so)) (first_falls program c row (some_wait c w is))

-- where nothing waits all is settled
pub none_left : (program : Program) (c d : Context) → None ≡ first_of c.front → d ≡ with_front (rest_of c.front) c → d ≡ settled program c
none_left program c d is d_is =
    let none : c.front ≡ [] = taken_none c.front is in
    d_is ∙ ap (λ (ws : List Waiting). with_front (rest_of ws) c) none ∙ ap (λ (ws : List Waiting). with_front ws c) (sym none) ∙ sym (settled_empty program c none)

-- ---- entries

-- what is handled as it is defined comes to the same
pub settles_same : (program : Program) (load : Cargo) (c r : Context) → Keeps program → ContextFits program c → CargoFits program load → r ≡ cargo_handled program load c → SettlesAs program load c r
settles_same program load c r keeps fit is so = record {
  same = ap (settled program) so;
  row = ap (λ (x : Context). x.row) so ∙ cargo_row program load c;
  fits = subst (ContextFits program) (sym so) (keeps.cargo load c fit is);
}

-- an event, and then its mark behind its row
pub settles_event : (program : Program) (e v : Value) (c d r : Context) → Keeps program → ContextFits program c → CargoFits program (cargo.Event e) → d ≡ met program (waiting.Event e) c → v ≡ e → r ≡ row_in_front (waiting.Completed v ∷ []) d → SettlesAs program (cargo.Event e) c r
settles_event program e v c d r keeps fit is d_is v_is so = settles_same program (cargo.Event e) c r keeps fit is (so ∙ ap (λ (x : Value). row_in_front (waiting.Completed x ∷ []) d) v_is ∙ ap (row_in_front (waiting.Completed e ∷ [])) d_is)

-- ---- a mark that comes next

-- handled at once, it comes to what it comes to behind the row
at_once : (program : Program) (e : Value) (d : Context) → d.row ≡ [] → d.spent ≡ false → settled program (thing_handled program (waiting.Completed e) d) ≡ settled program (row_in_front (waiting.Completed e ∷ []) d)
at_once program e d empty live =
    subst (λ (row : List Waiting). settled program (thing_handled program (waiting.Completed e) (record d { row = row })) ≡ settled program (row_in_front (waiting.Completed e ∷ []) (record d { row = row }))) (sym empty)
    (sym (settled_step program (row_in_front (waiting.Completed e ∷ []) (record d { row = [] })) refl live (omega arith)))

-- nothing stands in a row without length
pub empty_row : (ws : List Waiting) → true ≡ (length ws == 0) → ws ≡ []
empty_row [] h = refl
empty_row (w ∷ ws) h = absurd (omega (arith, eqb-true (length (w ∷ ws)) 0 (sym h)))

-- and what is left fits
at_once_fits : (program : Program) (e : Value) (d : Context) → Keeps program → d.row ≡ [] → WaitingFits program (waiting.Completed e) → ContextFits program (row_in_front (waiting.Completed e ∷ []) d) → ContextFits program (thing_handled program (waiting.Completed e) d)
at_once_fits program e d keeps empty event =
    subst (λ (row : List Waiting). ContextFits program (row_in_front (waiting.Completed e ∷ []) (record d { row = row })) → ContextFits program (thing_handled program (waiting.Completed e) (record d { row = row }))) (sym empty)
    (λ fit. keeps.thing (waiting.Completed e) (record d { row = [] }) (record { clock = fit.clock; instances = fit.instances; listeners = fit.listeners; row = All-nil (WaitingFits program); front = All-tail (WaitingFits program) (waiting.Completed e) d.front fit.front }) event)

-- what was met fits the entry
met_fits : (program : Program) (e : Value) (c d : Context) → Keeps program → ContextFits program c → CargoFits program (cargo.Event e) → d ≡ met program (waiting.Event e) c → ContextFits program (row_in_front (waiting.Completed e ∷ []) d)
met_fits program e c d keeps fit is d_is = subst (λ (x : Context). ContextFits program (row_in_front (waiting.Completed e ∷ []) x)) (sym d_is) (keeps.thing (waiting.Event e) c fit is)

-- an event whose row stays empty, and then its mark
pub settles_now : (program : Program) (e v : Value) (c d r : Context) → Keeps program → ContextFits program c → CargoFits program (cargo.Event e) → d ≡ met program (waiting.Event e) c → v ≡ e → d.row ≡ [] → d.spent ≡ false → r ≡ row_in_front [] (met program (waiting.Completed v) d) → SettlesAs program (cargo.Event e) c r
settles_now program e v c d r keeps fit is d_is v_is empty live so =
    let r_is : r ≡ thing_handled program (waiting.Completed e) d = so ∙ ap (λ (x : Value). row_in_front [] (met program (waiting.Completed x) d)) v_is in
    record {
      same = ap (settled program) r_is ∙ at_once program e d empty live ∙ ap (λ (x : Context). settled program (row_in_front (waiting.Completed e ∷ []) x)) d_is;
      row = ap (λ (x : Context). x.row) r_is;
      fits = subst (ContextFits program) (sym r_is) (at_once_fits program e d keeps empty is (met_fits program e c d keeps fit is d_is));
    }

-- the mark of an event that was met may be met, where the row stays empty
pub mark_may : (program : Program) (e : Value) (c d : Context) → Keeps program → ContextFits program c → CargoFits program (cargo.Event e) → d ≡ met program (waiting.Event e) c → d.row ≡ [] → ContextFits program d
mark_may program e c d keeps fit is d_is empty =
    let f : ContextFits program (row_in_front (waiting.Completed e ∷ []) d) = met_fits program e c d keeps fit is d_is in
    record { clock = f.clock; instances = f.instances; listeners = f.listeners; row = subst (All (WaitingFits program)) (sym empty) (All-nil (WaitingFits program)); front = subst (λ (row : List Waiting). All (WaitingFits program) (row ++ (waiting.Completed e ∷ []) ++ d.front) → All (WaitingFits program) d.front) (sym empty) (All-tail (WaitingFits program) (waiting.Completed e) d.front) f.front }

-- a load
pub settles_load : (program : Program) (monitor : ℕ) (c d r : Context) → Keeps program → ContextFits program c → CargoFits program (cargo.Load monitor) → d ≡ load_handled program monitor c → r ≡ row_in_front [] d → SettlesAs program (cargo.Load monitor) c r
settles_load program monitor c d r keeps fit is d_is so = settles_same program (cargo.Load monitor) c r keeps fit is (so ∙ ap (row_in_front []) d_is)

-- a time
pub settles_time : (program : Program) (now : ℤ) (c d r : Context) → Keeps program → ContextFits program c → CargoFits program (cargo.Time now) → d ≡ timed program now c → r ≡ row_in_front [] d → SettlesAs program (cargo.Time now) c r
settles_time program now c d r keeps fit is d_is so = settles_same program (cargo.Time now) c r keeps fit is (so ∙ ap (row_in_front []) d_is)
