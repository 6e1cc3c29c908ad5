-- The texts that the program writes
use Rattle.std.specs.Prelude.{ℕ, List, [], ◌∷◌, ◌++◌, flat_map, codes}
use Rattle.std.specs.Fmt.{decimal}
use Rattle.lh_bucket.specs.declared.call.Reply.{Reply}
use Rattle.lh_bucket.specs.declared.call.Reply.TheVariants.{Found, Absent, Inserted, Exists, Deleted, Replaced}
use Rattle.lh_script.specs.Notations.{byte_text}
use Rattle.lh_script.specs.declared.notation.Notation.{Notation}

abbrev pub reply_text : Notation → Reply → List ℕ
reply_text notation (Found value) = codes "found " ++ byte_text notation value
reply_text notation Absent = codes "absent"
reply_text notation Inserted = codes "inserted"
reply_text notation Exists = codes "exists"
reply_text notation Deleted = codes "deleted"
reply_text notation Replaced = codes "replaced"

-- a text as a line: an LF, 10, ends it
abbrev pub line : List ℕ → List ℕ
line text = text ++ 10 ∷ []

-- the number of buckets
abbrev pub size_text : ℕ → List ℕ
size_text buckets = codes "buckets " ++ decimal buckets

-- what `commands` writes: a line for each reply, then one for the number of buckets
unfoldable pub commands_text : Notation → List Reply → ℕ → List ℕ
commands_text notation replies buckets =
    flat_map (λ reply. line (reply_text notation reply)) replies ++ line (size_text buckets)
