-- A sequence of parts that is being written, from one place on.
use Rattle.std.proofs.Common.{ℕ, ◌≡◌, ◌<◌, ◌≤◌, ◌+◌, List, [], ◌∷◌, ◌++◌, Bool, true, false, refl, ap, sym, ◌∙◌, length, get_or, drop, map, append_assoc, codes}
use Rattle.std.proofs.lemmas.List.{append-nil, map-append}
use Rattle.wave_wasm.specs.Commas.{joined, followed, enclosed}
use Rattle.wave_wasm.specs.CommaParts.{comma_if}
use Rattle.wave_writer.specs.WriterState.{Output, Appended}
use Rattle.wave_wasm.proofs.CanonicalText.Sequences.{parted, parted_joined, parted_item, at_item, at_end}
use Rattle.wave_writer.proofs.CanonicalText.WrittenParts.{Writing, writing_as, start_written}

-- the start of a sequence was written
pub writing_start : {X : Type 0} (f : X → List ℕ) (xs : List X) (start end : List ℕ) {whole : List ℕ} {old new : Output} → whole ≡ enclosed start (map f xs) end → Appended start old new → Writing whole (parted false (map f xs) ++ end) old new
writing_start f xs start end {whole} {old} {new} is a = start_written (parted false (map f xs) ++ end) (is ∙ ap (λ z. start ++ (z ++ end)) (sym (parted_joined (map f xs)))) a

-- so of a text that is being written
pub writing_item : {X : Type 0} (f : X → List ℕ) (xs : List X) (i : ℕ) (x : X) {whole : List ℕ} (later : Bool) (close : List ℕ) {old now : Output} → i < length xs → x ≡ get_or xs i x → Writing whole (parted later (map f (drop i xs)) ++ close) old now → Writing whole (comma_if later ++ (f x ++ (parted true (map f (drop (i + 1) xs)) ++ close))) old now
writing_item f xs i x later close lt is w = writing_as (parted_item f xs i x later close lt is) w

-- after the last item only the close is left
pub writing_close : {X : Type 0} (f : X → List ℕ) (xs : List X) (i : ℕ) {whole : List ℕ} (later : Bool) (close : List ℕ) {old now : Output} → length xs ≤ i → Writing whole (parted later (map f (drop i xs)) ++ close) old now → Writing whole close old now
writing_close f xs i later close le w = writing_as (at_end (λ l. parted later (map f l) ++ close) xs i le) w

-- the texts, each before a comma, and then the last one
abbrev pub prefixed : List (List ℕ) → List ℕ → List ℕ
prefixed [] last = last
prefixed (s ∷ ss) last = s ++ (codes ", " ++ prefixed ss last)

followed_prefix : (ss : List (List ℕ)) (last : List ℕ) → followed (ss ++ last ∷ []) ≡ codes ", " ++ joined (ss ++ last ∷ [])
followed_prefix [] last = refl
followed_prefix (s ∷ ss) last = refl

-- they are the texts with commas between
prefixed_joined : (ss : List (List ℕ)) (last : List ℕ) → joined (ss ++ last ∷ []) ≡ prefixed ss last
prefixed_joined [] last = append-nil last
prefixed_joined (s ∷ ss) last = ap (λ z. s ++ z) (followed_prefix ss last ∙ ap (λ z. codes ", " ++ z) (prefixed_joined ss last))

-- the start of a sequence with a last item was written
pub writing_prefix_start : {X : Type 0} (f : X → List ℕ) (all ys : List X) (last : X) (start end : List ℕ) {whole : List ℕ} {old new : Output} → whole ≡ enclosed start (map f all) end → all ≡ ys ++ last ∷ [] → Appended start old new → Writing whole (prefixed (map f ys) (f last) ++ end) old new
writing_prefix_start f all ys last start end is split a =
    let texts = ap (λ l. joined (map f l)) split ∙ (ap joined (map-append f ys (last ∷ [])) ∙ prefixed_joined (map f ys) (f last)) in
    start_written (prefixed (map f ys) (f last) ++ end) (is ∙ ap (λ z. start ++ (z ++ end)) texts) a

-- what is left to write begins with the next item
pub writing_prefix : {X : Type 0} (f : X → List ℕ) (ys : List X) (i : ℕ) (x : X) (last close : List ℕ) {whole : List ℕ} {old now : Output} → i < length ys → x ≡ get_or ys i x → Writing whole (prefixed (map f (drop i ys)) last ++ close) old now → Writing whole (f x ++ (codes ", " ++ (prefixed (map f (drop (i + 1) ys)) last ++ close))) old now
writing_prefix f ys i x last close lt is w =
    let left = prefixed (map f (drop (i + 1) ys)) last in
    writing_as (at_item (λ l. prefixed (map f l) last ++ close) ys i x lt is ∙ (append_assoc (f x) (codes ", " ++ left) close ∙ ap (λ s. f x ++ s) (append_assoc (codes ", ") left close))) w

-- after the others the last item and the close are left
pub writing_prefix_close : {X : Type 0} (f : X → List ℕ) (ys : List X) (i : ℕ) (last close : List ℕ) {whole : List ℕ} {old now : Output} → length ys ≤ i → Writing whole (prefixed (map f (drop i ys)) last ++ close) old now → Writing whole (last ++ close) old now
writing_prefix_close f ys i last close le w = writing_as (at_end (λ l. prefixed (map f l) last ++ close) ys i le) w
