-- Callbacks, and what they are charged.
use Rattle.std.proofs.Common.{◌-◌, ◌+◌, ◌^◌, ◌<◌, ◌∷◌, ◌++◌, ◌≡◌, add-one, drop, get_or, append_assoc}
use Rattle.context_steps.proofs.Common.{ℕ, suc, Bool, true, false, cond, List, [], Option, Some, None, refl, sym, ap, subst, ◌∙◌, arith, nat_le, length, Value, Program, Site, Context, Instance, Listener, behind_charge, paid, spend, with_fuel, with_some, unless_spent, is_instance, instance_of, listener_of, ran, ContextFits, CallerFits, CanRunIn, InRange, Keeps}
use Rattle.std.proofs.Math.Seq.{drop-cons}
use Rattle.epl_values.specs.declared.shape.EventShape.{EventShape}
use Rattle.typed_program.specs.declared.program.Local.{Local}
use Rattle.term_meaning.specs.declared.stimulus.Binding.{Binding}
use Rattle.term_shapes.specs.Kept.{CompletionFits, CompletionsFit}
use Rattle.context_meaning.specs.Fits.{InstanceFits}
use Rattle.context_meaning.specs.Listeners.{bound_from, bound_value, callback_locals}
use Rattle.context_meaning.specs.Turns.{body_number, called, called_all, called_live}
use Rattle.context_meaning.proofs.Choosing.{unless_both}
use Rattle.context_meaning.proofs.Finding.{find_all}
use Rattle.context_steps.specs.Calls.{is_live}

-- ---- what a callback begins with

next_drop : {A : Type 0} (xs : List A) (k : ℕ) (x : A) → k < length xs → x ≡ get_or xs k x → drop k xs ≡ x ∷ drop (k + 1) xs
next_drop xs k x lt is = drop-cons xs k x lt ∙ ap (λ y. y ∷ drop (suc k) xs) (sym is) ∙ ap (λ n. x ∷ drop n xs) (sym (add-one k))

-- one name more
pub bound_step : (types : List EventShape) (completion : List Binding) (bs : List Local) (k : ℕ) (b : Local) (v : Value) (xs zs : List Value) → k < length bs → b ≡ get_or bs k b → v ≡ bound_value types completion k b → xs ++ bound_from types completion k (drop k bs) ≡ zs → (xs ++ v ∷ []) ++ bound_from types completion (k + 1) (drop (k + 1) bs) ≡ zs
bound_step types completion bs k b v xs zs lt is made so =
    append_assoc xs (v ∷ []) (bound_from types completion (k + 1) (drop (k + 1) bs))
    ∙ ap (λ w. xs ++ (w ∷ bound_from types completion (k + 1) (drop (k + 1) bs))) made
    ∙ sym (ap (λ ys. xs ++ bound_from types completion k ys) (next_drop bs k b lt is))
    ∙ so

-- ---- charges

-- what is known of a context whatever its fuel, and of one that is spent, is known behind a charge
pub paid_both : (P : Context → Type 0) (amount : ℕ) (c : Context) → P (with_fuel (c.fuel - amount) c) → P (spend c) → P (paid amount c)
paid_both P amount c h k = by (nat_le amount c.fuel)
  where
    by : (b : Bool) → P (cond b (with_fuel (c.fuel - amount) c) (spend c))
    by true = h
    by false = k

-- what was paid for goes on, and else the context is spent
pub charged_paid : (amount : ℕ) (go : Context → Context) (c d r : Context) → d ≡ paid amount c → nat_le amount c.fuel ≡ true → r ≡ go d → r ≡ behind_charge amount go c
charged_paid amount go c d r paid_is enough so = so ∙ ap go paid_is ∙ by (nat_le amount c.fuel) enough
  where
    by : (b : Bool) → b ≡ true → go (cond b (with_fuel (c.fuel - amount) c) (spend c)) ≡ cond b (go (with_fuel (c.fuel - amount) c)) (spend c)
    by true e = refl
    by false e = absurd (cc)

pub charged_spent : (amount : ℕ) (go : Context → Context) (c d : Context) → d ≡ paid amount c → nat_le amount c.fuel ≡ false → d ≡ behind_charge amount go c
charged_spent amount go c d paid_is less = paid_is ∙ by (nat_le amount c.fuel) less
  where
    by : (b : Bool) → b ≡ false → cond b (with_fuel (c.fuel - amount) c) (spend c) ≡ cond b (go (with_fuel (c.fuel - amount) c)) (spend c)
    by false e = refl
    by true e = absurd (cc)

-- fuel alone
pub paid_fits : (program : Program) (amount : ℕ) (c d : Context) → d ≡ paid amount c → ContextFits program c → ContextFits program d
paid_fits program amount c d so fit = subst (ContextFits program) (sym so) (paid_both (ContextFits program) amount c (record { clock = fit.clock; instances = fit.instances; listeners = fit.listeners; row = fit.row; front = fit.front }) (record { clock = fit.clock; instances = fit.instances; listeners = fit.listeners; row = fit.row; front = fit.front }))

less : (a b : ℕ) → a < 2 ^ 64 - 1 → a - b < 2 ^ 64 - 1
less a b h = omega (arith, h)

pub paid_range : (amount : ℕ) (c d : Context) → d ≡ paid amount c → InRange c → InRange d
paid_range amount c d so h = subst InRange (sym so) (paid_both InRange amount c (record { fuel = less c.fuel amount h.fuel; clock = h.clock }) (record { fuel = h.fuel; clock = h.clock }))

-- ---- a callback may run

pub instance_fits : (program : Program) (number : ℕ) (c : Context) (i : Instance) → ContextFits program c → instance_of number c ≡ Some i → InstanceFits program c.begun i
instance_fits program number c i fit is = find_all (InstanceFits program c.begun) (is_instance number) c.instances i fit.instances is

-- in its instance, with a completion that fits
can_call : (program : Program) (l : Listener) (site : Site) (completion : List Binding) (c : Context) → Keeps program → ContextFits program c → CallerFits program l site c → CompletionFits program.types site.bound completion → CanRunIn program l.instance (body_number program l.site) (callback_locals program.types site l.captured completion) c
can_call program l site completion c keeps fit caller bound = λ i there.
    let fits : InstanceFits program c.begun i = instance_fits program l.instance c i fit there in
    record { may = keeps.callback l site completion c fit caller bound i there; globals = fits.globals; number = fits.number }

-- under the number of its body and with its locals
pub can_run : (program : Program) (l : Listener) (site : Site) (completion : List Binding) (body : ℕ) (locals : List Value) (c : Context) → Keeps program → ContextFits program c → CallerFits program l site c → CompletionFits program.types site.bound completion → body ≡ body_number program l.site → locals ≡ callback_locals program.types site l.captured completion → CanRunIn program l.instance body locals c
can_run program l site completion body locals c keeps fit caller bound body_is locals_is =
    let first : CanRunIn program l.instance (body_number program l.site) (callback_locals program.types site l.captured completion) c = can_call program l site completion c keeps fit caller bound in
    let second : CanRunIn program l.instance body (callback_locals program.types site l.captured completion) c = subst (λ b. CanRunIn program l.instance b (callback_locals program.types site l.captured completion) c) (sym body_is) first in
    subst (λ (ls : List Value). CanRunIn program l.instance body ls c) (sym locals_is) second

-- it runs
pub ran_called : (program : Program) (l : Listener) (site : Site) (completion : List Binding) (body : ℕ) (locals : List Value) (c r : Context) → body ≡ body_number program l.site → locals ≡ callback_locals program.types site l.captured completion → r ≡ ran program l.instance body locals c → r ≡ called program l site completion c
ran_called program l site completion body locals c r body_is locals_is so =
    so ∙ ap (λ b. ran program l.instance b locals c) body_is ∙ ap (λ (ls : List Value). ran program l.instance (body_number program l.site) ls c) locals_is

-- ---- while it is live

pub not_live : (birth : ℕ) (go : Listener → Context → Context) (c : Context) → false ≡ is_live (listener_of birth c) → c ≡ with_some (listener_of birth c) go c
not_live birth go c is = by (listener_of birth c) is
  where
    by : (o : Option Listener) → false ≡ is_live o → c ≡ with_some o go c
    by None h = refl
    by (Some l) h = absurd (cc)

pub live : (birth : ℕ) (go : Context → Context) (c r : Context) → true ≡ is_live (listener_of birth c) → r ≡ go c → r ≡ with_some (listener_of birth c) (λ l. go) c
live birth go c r is so = by (listener_of birth c) is
  where
    by : (o : Option Listener) → true ≡ is_live o → r ≡ with_some o (λ l. go) c
    by None h = absurd (cc)
    by (Some l) h = so

-- ---- each completion

-- one more
pub called_more : (program : Program) (l : Listener) (site : Site) (xs : List (List Binding)) (k : ℕ) (x : List Binding) (c d : Context) → k < length xs → x ≡ get_or xs k x → d ≡ unless_spent (called_live program l site x) c → called_all program l site (drop (k + 1) xs) d ≡ called_all program l site (drop k xs) c
called_more program l site xs k x c d lt is so = ap (called_all program l site (drop (k + 1) xs)) so ∙ sym (ap (λ (ys : List (List Binding)). called_all program l site ys c) (next_drop xs k x lt is))

-- what is kept
pub called_fits : (program : Program) (l : Listener) (site : Site) (x : List Binding) (c d : Context) → Keeps program → ContextFits program c → CallerFits program l site c → CompletionFits program.types site.bound x → d ≡ unless_spent (called_live program l site x) c → ContextFits program d
called_fits program l site x c d keeps fit caller bound so = subst (ContextFits program) (sym so) (unless_both (ContextFits program) (called_live program l site x) c fit (keeps.called l site x c fit caller bound))

pub called_caller : (program : Program) (l : Listener) (site : Site) (x : List Binding) (c d : Context) → Keeps program → ContextFits program c → CallerFits program l site c → CompletionFits program.types site.bound x → d ≡ unless_spent (called_live program l site x) c → CallerFits program l site d
called_caller program l site x c d keeps fit caller bound so = subst (CallerFits program l site) (sym so) (unless_both (CallerFits program l site) (called_live program l site x) c caller (keeps.caller l site x c fit caller bound))

-- one of those that fit
pub one_fits : (types : List EventShape) (bound : List Local) (xs : List (List Binding)) (k : ℕ) (x : List Binding) → CompletionsFit types bound xs → k < length xs → x ≡ get_or xs k x → CompletionFits types bound x
one_fits types bound xs k x all lt is = subst (CompletionFits types bound) (sym is) (all k x lt)
