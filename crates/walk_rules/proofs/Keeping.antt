-- What holds of the variables that a run passes holds where a call leaves them.
use Rattle.std.proofs.Common.{◌∷◌, ◌++◌}
use Rattle.walk_rules.proofs.Common.{ℕ, List, [], Result, Ok, Err, sym, ap, subst, ◌∙◌, Told, Frame, Halt, Did, M, Stop, Halted, Memory, state_of, did_of, standing, Ran, Passes, Does, Walks}
use Rattle.std.specs.List.{All}
use Rattle.std.proofs.lemmas.List.Elements.{All-cons, All-contains}
use Rattle.walk_rules.proofs.Frames.{contains_standing, did_outcome}

module _ {A : Type 0} (P : Frame → Type 0) (m : M A) (old : Told) (frame : Frame) (here : P frame) (passed : (draws : List ℕ) → All P (did_of (m (state_of old draws frame))).frames) where
  ran_keeps : (new : Told) (frame' : Frame) (r : Result A Halt) → Ran m old frame new frame' r → P frame'
  ran_keeps new frame' r a =
      let did = ap did_of (a.gives []) ∙ did_outcome r a.did (state_of new [] frame') in
      let all = subst (λ (d : Did). All P d.frames) did (passed _) in
      subst P (sym a.stands) (All-contains P (frame ∷ a.did.frames) (standing frame a.did.frames) (All-cons P frame a.did.frames here all) (contains_standing frame a.did.frames))

  passes_keeps : (frame' : Frame) → Passes m old frame frame' → P frame'
  passes_keeps frame' a =
      let frames = (did_of (m (state_of old (a.draws ++ []) frame))).frames in
      All-contains P (frame ∷ frames) frame' (All-cons P frame frames here (passed (a.draws ++ []))) (a.passed [])

  does_keeps : (new : Told) (frame' : Frame) (r : Result A Stop) → Does m old frame new frame' r → P frame'
  does_keeps new frame' (Ok x) a = ran_keeps new frame' (Ok x) a
  does_keeps new frame' (Err (Halted why)) a = ran_keeps new frame' (Err why) a
  does_keeps new frame' (Err Memory) a = passes_keeps frame' a

  -- whatever the call answers
  pub walks_keeps : {new : Told} {frame' : Frame} {r : Result A Stop} → Walks m old frame new frame' r → P frame'
  walks_keeps {new} {frame'} {r} a = does_keeps new frame' r a.does
