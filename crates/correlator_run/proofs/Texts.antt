-- Program files that are read one after another.
use Rattle.std.proofs.Common.{◌≡◌, ℕ, suc, ◌+◌, ◌<◌, ◌≤◌, List, [], ◌∷◌, ◌++◌, map, take, get_or, Option, None, Ok, length, arith, sym, ◌∙◌, ap, subst}
use Rattle.std.specs.List.{AllByRecursion}
use Rattle.std.proofs.Math.Seq.{take-suc}
use Rattle.std.proofs.lemmas.List.{length-append}
use Rattle.correlator_run.specs.Inputs.{Files, most_program, wanted_program, AreRead}
use Rattle.correlator_run.specs.Steps.{FileRead}

-- one file more
read-behind : (files : Option Files) (names texts : List (List ℕ)) (name text : List ℕ) → AreRead files (map wanted_program names) texts → FileRead files None name most_program (Ok text) → AreRead files (map wanted_program (names ++ name ∷ [])) (texts ++ text ∷ [])
read-behind files [] [] name text t read = (read.0, read.1, tt)
read-behind files [] (b ∷ texts) name text t read = absurd t
read-behind files (n ∷ names) [] name text t read = absurd t
read-behind files (n ∷ names) (b ∷ texts) name text t read = (t.0, t.1, read-behind files names texts name text t.2 read)

-- a step of the loop over their names
pub texts-more : (files now : Option Files) (seen names : List (List ℕ)) (i : ℕ) (name text : List ℕ) (texts more : List (List ℕ)) → seen ≡ names → i < length seen → name ≡ get_or seen i name
    → AreRead files (map wanted_program (take i names)) texts → now ≡ files → FileRead now None name most_program (Ok text) → more ≡ texts ++ text ∷ []
    → AreRead files (map wanted_program (take (i + 1) names)) more
texts-more files now seen names i name text texts more same lt is read stays told pushed =
    let here : FileRead files None name most_program (Ok text) = subst (λ (fs : Option Files). FileRead fs None name most_program (Ok text)) stays told in
    let within : i < length names = subst (λ (xs : List (List ℕ)). i < length xs) same lt in
    let item : name ≡ get_or names i name = subst (λ (xs : List (List ℕ)). name ≡ get_or xs i name) same is in
    let next : i + 1 ≡ suc i = omega arith in
    let front : take (i + 1) names ≡ take i names ++ name ∷ [] = ap (λ (k : ℕ). take k names) next ∙ take-suc names i name within ∙ ap (λ (x : List ℕ). take i names ++ x ∷ []) (sym item) in
    let behind = read-behind files (take i names) texts name text read here in
    subst (λ (ns : List (List ℕ)). AreRead files (map wanted_program ns) more) (sym front) (subst (λ (ts : List (List ℕ)). AreRead files (map wanted_program (take i names ++ name ∷ [])) ts) (sym pushed) behind)

-- a short text more
short-behind : (texts : List (List ℕ)) (text : List ℕ) → AllByRecursion (λ (t : List ℕ). length t < 4294967295) texts → length text < 4294967295 → AllByRecursion (λ (t : List ℕ). length t < 4294967295) (texts ++ text ∷ [])
short-behind [] text all short = (short, tt)
short-behind (t ∷ texts) text all short = (all.0, short-behind texts text all.1 short)

pub short-more : (texts more : List (List ℕ)) (text : List ℕ) → AllByRecursion (λ (t : List ℕ). length t < 4294967295) texts → length text ≤ 131072 → more ≡ texts ++ text ∷ [] → AllByRecursion (λ (t : List ℕ). length t < 4294967295) more
short-more texts more text all short pushed =
    let within : length text < 4294967295 = omega arith in
    subst (λ (ts : List (List ℕ)). AllByRecursion (λ (t : List ℕ). length t < 4294967295) ts) (sym pushed) (short-behind texts text all within)

-- a text more
pub count-more : (texts more : List (List ℕ)) (text : List ℕ) (i : ℕ) → length texts ≤ i → more ≡ texts ++ text ∷ [] → length more ≤ i + 1
count-more texts more text i few pushed =
    let size : length more ≡ length texts + 1 = ap length pushed ∙ length-append texts (text ∷ []) in
    omega arith
