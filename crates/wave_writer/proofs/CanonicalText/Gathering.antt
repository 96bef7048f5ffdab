-- Texts that are put into a room and gathered there, before they are written.
use Rattle.std.proofs.Common.{ℕ, ◌≡◌, ◌<◌, ◌≤◌, ◌+◌, ◌-◌, List, [], ◌++◌, Bool, true, refl, sym, ap, ◌∙◌, length, get_or, take, drop, map, arith, append_assoc, take-append-drop, length-take-le}
use Rattle.std.proofs.Math.Seq.{take-add}
use Rattle.std.proofs.lemmas.List.{append-nil, drop-drop, drop-take, length-drop, take-append-le, take-take, take_at}
use Rattle.std.proofs.lemmas.Slice.{drop-append-drop}
use Rattle.std.specs.Prelude.{Err}
use Rattle.wave_writer.specs.WriterState.{Output, Refused}
use Rattle.wave_writer.specs.declared.writer.WriterError.{WriterError}
use Rattle.wave_writer.specs.Private.WriterState.{Gathers, Writes}
use Rattle.wave_wasm.specs.CommaParts.{comma_if}
use Rattle.wave_wasm.proofs.CanonicalText.Sequences.{at_end, item_again, parted, parted_item}
use Rattle.wave_writer.proofs.CanonicalText.WrittenParts.{Writing, writing_as, writing_more, writing_none, writing_refused}

-- ---- two parts that may overlap

-- what stands before both stays
pub ends_before : (room first second : List ℕ) (start rest : ℕ) → take start first ≡ take start room → take (start + rest) second ≡ take (start + rest) first → take start second ≡ take start room
ends_before room first second start rest a b = sym (take-take start (start + rest) second (omega arith)) ∙ (ap (take start) b ∙ (take-take start (start + rest) first (omega arith) ∙ a))

-- the first k bytes, and then from there on those behind the first n - k, of n that are at most 2 k
pub ends_put : (bytes room first second : List ℕ) (start k : ℕ) → k ≤ length bytes → length bytes ≤ k + k → drop start first ≡ take k bytes ++ drop (start + length (take k bytes)) room → take (start + (length bytes - k)) second ≡ take (start + (length bytes - k)) first → drop (start + (length bytes - k)) second ≡ drop (length bytes - k) bytes ++ drop (start + (length bytes - k) + length (drop (length bytes - k) bytes)) first → drop start second ≡ bytes ++ drop (start + length bytes) room
ends_put bytes room first second start k le ge a b c =
    let rest : ℕ = length bytes - k in
    let n : ℕ = length bytes in
    let long : length (take k bytes) ≡ k = length-take-le k bytes le in
    let first_is : drop start first ≡ take k bytes ++ drop (start + k) room = a ∙ ap (λ i. take k bytes ++ drop (start + i) room) long in
    let second_end : start + rest + length (drop rest bytes) ≡ start + n = omega (arith, length-drop rest bytes) in
    let prefix : take rest (drop start second) ≡ take rest bytes =
    sym (drop-take start rest second) ∙ (ap (drop start) b ∙ (drop-take start rest first ∙ (ap (take rest) first_is ∙ (take-append-le rest (take k bytes) (drop (start + k) room) (omega (arith, long)) ∙ take-take rest k bytes (omega arith))))) in
    let behind : drop (start + n) first ≡ drop (start + n) room =
    sym (drop-drop n start first) ∙ (ap (drop n) first_is ∙ (ap (λ z. drop n (take k bytes ++ z)) (sym (drop-drop k start room)) ∙ (drop-append-drop k (drop start room) (take k bytes) n le long ∙ drop-drop n start room))) in
    let back : drop rest (drop start second) ≡ drop rest bytes ++ drop (start + n) room = drop-drop rest start second ∙ (c ∙ ap (λ z. drop rest bytes ++ z) (ap (λ i. drop i first) second_end ∙ behind)) in
    sym (take-append-drop rest (drop start second)) ∙ (ap (λ z. z ++ drop rest (drop start second)) prefix ∙ (ap (λ z. take rest bytes ++ z) back ∙ (sym (append_assoc (take rest bytes) (drop rest bytes) (drop (start + n) room)) ∙ ap (λ z. z ++ drop (start + n) room) (take-append-drop rest bytes))))

-- a text behind what stands in the room
pub put_behind : (text room new : List ℕ) (end : ℕ) → take end new ≡ take end room → drop end new ≡ text ++ drop (end + length text) room → take (end + length text) new ≡ take end room ++ text
put_behind text room new end a b =
    take-add end (length text) new ∙ (ap (λ z. z ++ take (length text) (drop end new)) a ∙ ap (λ z. take end room ++ z) (ap (take (length text)) b ∙ take_at text (drop (end + length text) room) (length text) refl))

-- so two texts in turn
pub put_both : (one more room next new : List ℕ) (end : ℕ) → take (end + length one) next ≡ take end room ++ one → take (end + length one + length more) new ≡ take (end + length one) next ++ more → take (end + length one + length more) new ≡ take end room ++ (one ++ more)
put_both one more room next new end a b = b ∙ (ap (λ z. z ++ more) a ∙ append_assoc (take end room) one more)

-- ---- texts that are gathered

-- of the text `whole`, all but what is gathered and `rest` was taken
pub writing_gathered : {whole gathered more now_gathered : List ℕ} (rest : List ℕ) {old now new : Output} → Writing whole (gathered ++ (more ++ rest)) old now → Gathers gathered more now_gathered now new → Writing whole (now_gathered ++ rest) old new
writing_gathered {whole} {gathered} {more} {now_gathered} rest w g =
    let same : gathered ++ (more ++ rest) ≡ g.part ++ (now_gathered ++ rest) = sym (append_assoc gathered more rest) ∙ (ap (λ z. z ++ rest) g.all ∙ append_assoc g.part now_gathered rest) in
    writing_more (writing_as same w) g.taken

-- nothing is gathered at the start
pub gathering_start : {whole gathered : List ℕ} (rest : List ℕ) (old : Output) → gathered ≡ [] → whole ≡ rest → Writing whole (gathered ++ rest) old old
gathering_start {whole} rest old none is = writing_as (is ∙ ap (λ z. z ++ rest) (sym none)) (writing_none whole old)

-- what is left to write begins with the next item
pub gathering_item : {X : Type 0} (f : X → List ℕ) (xs : List X) (i : ℕ) (d : X) (gathered : List ℕ) {whole : List ℕ} (later : Bool) (close : List ℕ) {old now : Output} → i < length xs → Writing whole (gathered ++ (parted later (map f (drop i xs)) ++ close)) old now → Writing whole (gathered ++ ((comma_if later ++ f (get_or xs i d)) ++ (parted true (map f (drop (i + 1) xs)) ++ close))) old now
gathering_item f xs i d gathered later close lt w =
    let begins = parted_item f xs i (get_or xs i d) later close lt (item_again xs i d lt) ∙ sym (append_assoc (comma_if later) (f (get_or xs i d)) (parted true (map f (drop (i + 1) xs)) ++ close)) in
    writing_as (ap (λ z. gathered ++ z) begins) w

-- after the last item only the close is left
pub gathering_close : {X : Type 0} (f : X → List ℕ) (xs : List X) (i : ℕ) (gathered : List ℕ) {whole : List ℕ} (later : Bool) (close : List ℕ) {old now : Output} → length xs ≤ i → Writing whole (gathered ++ (parted later (map f (drop i xs)) ++ close)) old now → Writing whole (gathered ++ (close ++ [])) old now
gathering_close f xs i gathered later close le w = writing_as (ap (λ z. gathered ++ z) (at_end (λ l. parted later (map f l) ++ close) xs i le ∙ sym (append-nil close))) w

-- all is gathered
pub gathered_all : {whole gathered : List ℕ} {old now : Output} → Writing whole (gathered ++ []) old now → Writing whole gathered old now
gathered_all {whole} {gathered} w = writing_as (append-nil gathered) w

-- one more is refused
pub gathered_refused : (gathered more rest : List ℕ) {whole : List ℕ} {old now new : Output} {all : Bool} {e : WriterError} → Writing whole (gathered ++ (more ++ rest)) old now → Refused (gathered ++ more) true e now new → Writes whole all (Err e) old new
gathered_refused gathered more rest w r = writing_refused rest (writing_as (sym (append_assoc gathered more rest)) w) (λ h. cc) r
