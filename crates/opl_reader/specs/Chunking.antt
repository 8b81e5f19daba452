-- What a reader has handed out, however the input is cut into pieces.
use Rattle.std.specs.Prelude.{◌≡◌, ◌≤◌, ℕ, false, List, [], ◌∷◌, ◌++◌, length, take, Option, Some, None, Ok}
use Rattle.std.specs.List.{flat_map, filter_map}
use Rattle.osm_elements.specs.declared.object.Object.{Object}
use Rattle.opl_reader.specs.declared.feed.Fed.{Fed}
use Rattle.opl_reader.specs.LineReading.{reading}
use Rattle.opl_reader.specs.Lines.{whole_lines, lines_of, unfinished_of}
use Rattle.opl_reader.specs.Told.{object_told}
use Rattle.opl_reader.specs.Reader.{Reader, new_reader}
use Rattle.opl_reader.specs.Feeding.{feeding, finishing}

-- the line may be read: it isn't too long, and has a reading
pub record IsReadable (longest : ℕ) (line : List ℕ) : Type 0 where
  pub short : length line ≤ longest
  pub object : Option Object
  pub read : reading line ≡ Ok object

-- each of the lines may be read
abbrev pub AreReadable : ℕ → List (List ℕ) → Type 0
AreReadable longest [] = Unit {0}
AreReadable longest (line ∷ lines) = IsReadable longest line × AreReadable longest lines

-- The objects of all whole lines of these bytes were handed out, and the bytes determine the reader after them.
pub record HandsOut (most : ℕ) (bytes : List ℕ) (handed : List Object) (r : Reader) : Type 0 where
  pub objects : handed ≡ filter_map object_told (whole_lines bytes)
  pub readable : AreReadable most (whole_lines bytes)
  pub unfinished : r.unfinished ≡ unfinished_of bytes
  pub short : length r.unfinished ≤ most
  pub line : r.line ≡ length (whole_lines bytes)
  pub fed : r.fed ≡ length bytes
  pub longest : r.longest ≡ most
  pub goes_on : r.has_ended ≡ false

abbrev pub with_told : List Object → Option Object → List Object
with_told objects None = objects
with_told objects (Some object) = objects ++ object ∷ []

-- ---- laws

-- Nothing was fed to a new reader.
abbrev pub NothingFed : Type 0
NothingFed = (longest : ℕ) → HandsOut longest [] [] (new_reader longest)

-- One more piece, of which `fed.used` bytes were used.
abbrev pub OneMorePiece : Type 0
OneMorePiece = (longest : ℕ) (bytes : List ℕ) (handed : List Object) (r : Reader) (piece : List ℕ) (fed : Fed) (next : Reader) → HandsOut longest bytes handed r →
    feeding r piece ≡ Ok (fed, next) → HandsOut longest (bytes ++ take fed.used piece) (with_told handed fed.object) next

-- a call of feed: the piece, and the answer
pub record Call : Type 0 where
  pub piece : List ℕ
  pub fed : Fed

-- These calls lead from one reader to another; what the contract of `feed` says of an Ok is `feeding .. ≡ Ok ..`.
abbrev pub Calls : Reader → List Call → Reader → Type 0
Calls first [] last = first ≡ last
Calls first (call ∷ calls) last = (next : Reader) × (feeding first call.piece ≡ Ok (call.fed, next)) × Calls next calls last

-- the bytes that the calls used, one after the other
abbrev pub bytes_of : List Call → List ℕ
bytes_of calls = flat_map (λ c. take c.fed.used c.piece) calls

-- the objects that the calls handed out, in order
abbrev pub objects_of : List Call → List Object
objects_of calls = filter_map (λ c. c.fed.object) calls

-- However the calls cut the input into pieces.
abbrev pub AnyChunking : Type 0
AnyChunking = (longest : ℕ) (calls : List Call) (last : Reader) → Calls (new_reader longest) calls last →
    HandsOut longest (bytes_of calls) (objects_of calls) last

-- Together with what finish gives, the objects are those of all lines of the bytes.
pub record HandsOutAll (longest : ℕ) (bytes : List ℕ) (handed : List Object) (r : Reader) : Type 0 where
  pub objects : handed ≡ filter_map object_told (lines_of bytes)
  pub readable : AreReadable longest (lines_of bytes)
  pub line : r.line ≡ length (lines_of bytes)

abbrev pub FinishGivesTheRest : Type 0
FinishGivesTheRest = (longest : ℕ) (bytes : List ℕ) (handed : List Object) (last : Reader) (rest : Option Object) (r : Reader) → HandsOut longest bytes handed last →
    finishing last ≡ Ok (rest, r) → HandsOutAll longest bytes (with_told handed rest) r
