-- What a stop says of what is read.
use Rattle.std.proofs.Common.{◌≡◌, ℕ, List, [], ◌++◌, Err, sym, ap, subst, ◌∙◌}
use Rattle.std.specs.Prelude.{string_bytes}
use Rattle.wave_json.specs.declared.error.JsonErrorKind.{JsonErrorKind}
use Rattle.wave_json.specs.declared.error.Stop.{Stop}
use Rattle.wave_json.specs.declared.error.Stop.TheVariants as stops
use Rattle.wave_json.specs.Private.Readers.{Fails}
use Rattle.wave_json.specs.Private.Stops.{IsHere, IsAt, IsUnder}
use Rattle.wave_json.specs.Reading.{Fault, Reading, here, under, ◌>>=◌}

abbrev fails_as : {A : Type 0} → Fault → Reading A
fails_as e = Err e

same_fault : {A : Type 0} (kind other : JsonErrorKind) (path from : List ℕ) → kind ≡ other → path ≡ from → fails_as {A = A} (record { kind = other; path = from }) ≡ Err (record { kind = kind; path = path })
same_fault {A = A} kind other path from k p = ap (λ (x : JsonErrorKind). fails_as {A = A} (record { kind = x; path = from })) (sym k) ∙ ap (λ (x : List ℕ). fails_as {A = A} (record { kind = kind; path = x })) (sym p)

-- a fault in the part itself
pub here_fails : {A : Type 0} (Full : Type 0) (kind : JsonErrorKind) (s : Stop) (read : Reading A) → IsHere kind s → read ≡ Err (here kind) → Fails Full s read
here_fails Full kind stops.Memory read h e = absurd h
here_fails Full kind (stops.Refused trail) read h e = absurd h
here_fails Full kind (stops.Fault other trail) read h e = e ∙ same_fault other kind (string_bytes trail.path) [] h.0 h.1

-- a fault in a part to which a step leads
pub at_fails : {A : Type 0} (Full : Type 0) (step : List ℕ) (kind : JsonErrorKind) (s : Stop) (read : Reading A) → IsAt step kind s → read ≡ Err (record { kind = kind; path = step ++ [] }) → Fails Full s read
at_fails Full step kind stops.Memory read h e = tt
at_fails Full step kind (stops.Refused trail) read h e = absurd h
at_fails Full step kind (stops.Fault other trail) read h e = e ∙ same_fault other kind (string_bytes trail.path) (step ++ []) h.0 h.1

-- what stopped the reader of a part stops that of the whole
pub fails_of : {A B : Type 0} (Part Full : Type 0) (s : Stop) (part : Reading A) (whole : Reading B) → (Full → Part) → ((e : Fault) → part ≡ Err e → whole ≡ Err e) → Fails Part s part → Fails Full s whole
fails_of Part Full stops.Memory part whole full f h = tt
fails_of Part Full (stops.Refused trail) part whole full f h = λ all. h (full all)
fails_of Part Full (stops.Fault kind trail) part whole full f h = f (record { kind = kind; path = string_bytes trail.path }) h

-- what follows a fault is not read
pub stops_at : {A B : Type 0} (r : Reading A) (f : A → Reading B) (e : Fault) → r ≡ Err e → (r >>= f) ≡ Err e
stops_at {A = A} r f e is = ap (λ (q : Reading A). q >>= f) is

-- so seen from where the step begins
pub under_fails : {A : Type 0} (Full : Type 0) (step : List ℕ) (s t : Stop) (read : Reading A) → IsUnder step s t → Fails Full s read → Fails Full t (under step read)
under_fails Full step stops.Memory t read u h = subst (λ (x : Stop). Fails Full x (under step read)) (sym u) tt
under_fails Full step (stops.Refused trail) stops.Memory read u h = tt
under_fails Full step (stops.Refused trail) (stops.Refused other) read u h = h
under_fails Full step (stops.Refused trail) (stops.Fault kind other) read u h = absurd u
under_fails Full step (stops.Fault kind trail) stops.Memory read u h = tt
under_fails Full step (stops.Fault kind trail) (stops.Refused other) read u h = absurd u
under_fails {A = A} Full step (stops.Fault kind trail) (stops.Fault same other) read u h =
    ap (under step) h ∙ same_fault same kind (string_bytes other.path) (step ++ string_bytes trail.path) u.0 u.1
