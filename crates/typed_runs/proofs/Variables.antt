-- Variables of their shapes: what is read from them, and what is stored in them.
use Rattle.std.proofs.Common.{◌≡◌}
use Rattle.typed_runs.proofs.Common.{ℕ, List, Option, Some, Result, Ok, Err, refl, sym, subst, slice_get, Shape, Value, Program, Variable, Fault, Frame, Move, variable_in, with_variable, store, alter, set_local, Fit, AllFit, LeadsTo, globals_in, FrameFits}
use Rattle.typed_program.specs.declared.statement.Variable.TheVariants as variable
use Rattle.body_meaning.specs.Paths.{then_try, or_none, change_variable, stored, altered}
use Rattle.value_shapes.proofs.Lists.{fit_there, fit_set}
use Rattle.value_shapes.proofs.Stores.{stored_fits, altered_fits}

-- the shape of a variable
abbrev pub shape_at : Program → ℕ → List Shape → Variable → Option Shape
shape_at program monitor room (variable.Global n) = slice_get (globals_in program monitor) n
shape_at program monitor room (variable.Local n) = slice_get room n

module _ (program : Program) where
  -- a value that is there
  there_fits : (values : List Value) (shapes : List Shape) (n : ℕ) (s : Shape) → AllFit program.types values shapes → slice_get shapes n ≡ Some s → Fit program.types (or_none (slice_get values n)) s
  there_fits values shapes n s h is = let found = fit_there program.types values shapes n s h is in subst (λ (o : Option Value). Fit program.types (or_none o) s) (sym found.1) found.2

  module _ (monitor : ℕ) (room : List Shape) where
    -- what is read
    pub variable_fits : (x : Variable) (s : Shape) (frame : Frame) → FrameFits program monitor room frame → shape_at program monitor room x ≡ Some s → Fit program.types (variable_in x frame) s
    variable_fits (variable.Global n) s frame f is = there_fits frame.globals (globals_in program monitor) n s f.globals is
    variable_fits (variable.Local n) s frame f is = there_fits frame.locals room n s f.locals is

    -- another value of the same shape
    pub with_variable_fits : (x : Variable) (s : Shape) (v : Value) (frame : Frame) → FrameFits program monitor room frame → shape_at program monitor room x ≡ Some s → Fit program.types v s → FrameFits program monitor room (with_variable x v frame)
    with_variable_fits (variable.Global n) s v frame f is h = record { globals = fit_set program.types frame.globals (globals_in program monitor) n v s f.globals is h; locals = f.locals }
    with_variable_fits (variable.Local n) s v frame f is h = record { globals = f.globals; locals = fit_set program.types frame.locals room n v s f.locals is h }

    -- a variable with a value that may be a fault
    tried_fits : (x : Variable) (s : Shape) (r : Result Value Fault) (a b : Frame) → shape_at program monitor room x ≡ Some s → FrameFits program monitor room a → ((w : Value) → r ≡ Ok w → Fit program.types w s) → then_try r (λ v. Ok (with_variable x v a)) ≡ Ok b → FrameFits program monitor room b
    tried_fits x s (Ok w) a b is f h e = let same : with_variable x w a ≡ b = cc in subst (FrameFits program monitor room) same (with_variable_fits x s w a f is (h w refl))
    tried_fits x s (Err fault) a b is f h e = cc

    -- a variable that is changed by what keeps its shape
    pub change_variable_fits : (x : Variable) (s : Shape) (g : Value → Result Value Fault) (a b : Frame) → shape_at program monitor room x ≡ Some s → FrameFits program monitor room a → ((v w : Value) → Fit program.types v s → g v ≡ Ok w → Fit program.types w s) → change_variable x g a ≡ Ok b → FrameFits program monitor room b
    change_variable_fits x s g a b is f h e = tried_fits x s (g (variable_in x a)) a b is f (λ w k. h (variable_in x a) w (variable_fits x s a f is) k) e

    -- a value of the shape at the end of a path is stored there
    pub store_fits : (x : Variable) (s t : Shape) (moves : List Move) (v : Value) (a b : Frame) → shape_at program monitor room x ≡ Some s → LeadsTo program.types moves s t → Fit program.types v t → FrameFits program monitor room a → store x moves v a ≡ Ok b → FrameFits program monitor room b
    store_fits x s t moves v a b is leads h f e = change_variable_fits x s (stored moves v) a b is f (λ old new k r. stored_fits program.types moves old v new s t k leads h r) e

    -- the part at the end of a path is changed by what keeps its shape
    pub alter_fits : (x : Variable) (s t : Shape) (moves : List Move) (g : Value → Result Value Fault) (a b : Frame) → shape_at program monitor room x ≡ Some s → LeadsTo program.types moves s t → ((v w : Value) → Fit program.types v t → g v ≡ Ok w → Fit program.types w t) → FrameFits program monitor room a → alter x moves g a ≡ Ok b → FrameFits program monitor room b
    alter_fits x s t moves g a b is leads h f e = change_variable_fits x s (altered moves g) a b is f (λ old new k r. altered_fits program.types moves g old new s t k leads h r) e

    -- a local with another value
    pub set_local_fits : (n : ℕ) (s : Shape) (v : Value) (a b : Frame) → slice_get room n ≡ Some s → Fit program.types v s → FrameFits program monitor room a → set_local n v a ≡ Ok b → FrameFits program monitor room b
    set_local_fits n s v a b is h f e = let same : with_variable (variable.Local n) v a ≡ b = cc in subst (FrameFits program monitor room) same (with_variable_fits (variable.Local n) s v a f is h)
