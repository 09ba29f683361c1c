-- What a writer holds only grows, however many texts are written. Assumes nothing.
use Rattle.std.specs.Prelude.{List, [], ◌++◌, take, ℕ, Option, Result, Ok, Err}
use Rattle.std.proofs.KnownBytes.{Appends-nil, Appends-trans}
use Rattle.streams.specs.Streams.{Says, Grows}

pub grows_not : (a : Option (List ℕ)) → Grows a a
grows_not a = record { more = []; appended = Appends-nil a }

pub grows_trans : {a b c : Option (List ℕ)} → Grows a b → Grows b c → Grows a c
grows_trans {a} {b} {c} p q = record { more = p.more ++ q.more; appended = Appends-trans a b c p.more q.more p.appended q.appended }

pub says_grows : {T E : Type 0} {a b : Option (List ℕ)} (r : Result T E) (text : List ℕ) → Says a b r text → Grows a b
says_grows (Ok x) text p = record { more = text; appended = p }
says_grows (Err e) text p = record { more = take p.count text; appended = p.appended }
