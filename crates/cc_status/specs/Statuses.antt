-- The number of each status, and the line that tells it.
use Rattle.std.specs.Prelude.{ℕ, Bool, true, false, nat_lt, List, [], ◌++◌, codes}
use Rattle.std.specs.Fmt.{decimal}
use Rattle.cc_cost.specs.declared.fault.ProfileFault.{ProfileFault}
use Rattle.cc_cost.specs.declared.fault.ProfileFault.TheVariants as profile
use Rattle.cc_files.specs.declared.unread.Unread.{Unread}
use Rattle.cc_files.specs.declared.unread.Unread.TheVariants as unread
use Rattle.cc_read.specs.declared.refusal.ReadRefusal.{ReadRefusal}
use Rattle.cc_read.specs.declared.refusal.ReadRefusal.TheVariants as why
use Rattle.cc_status.specs.Causes.{cause_of}
use Rattle.cc_status.specs.declared.status.Status.{Status}
use Rattle.cc_status.specs.declared.status.What.{What}
use Rattle.cc_status.specs.declared.status.What.TheVariants.{Count, Steps, Functions, Ram, Out}
use Rattle.cc_status.specs.declared.status.Status.TheVariants.{Done, Usage, ReadFault, TooLong, Refused, Profile, Inputs, Arrivals, Limit, WriteFault, NoMemory}

abbrev pub number_of : Status → ℕ
number_of Done = 0
number_of (Usage word) = 2
number_of (ReadFault name) = 3
number_of (TooLong name) = 4
number_of (Refused name why) = 5
number_of (Profile fault) = 6
number_of (Inputs row) = 8
number_of (Arrivals row) = 9
number_of (Limit what number) = 10
number_of (WriteFault name) = 11
number_of NoMemory = 12

-- what stands in front of the number that is above a limit
abbrev pub limit_text : What → List ℕ
limit_text Count = codes "limit count "
limit_text Steps = codes "limit steps "
limit_text Functions = codes "limit functions "
limit_text Ram = codes "limit ram "
limit_text Out = codes "limit out "

abbrev pub profile_text : ProfileFault → List ℕ
profile_text (profile.Row row rule) = codes "profile row " ++ (decimal row ++ (codes " rule " ++ decimal rule))
profile_text profile.NoMemory = codes "out of memory"

abbrev pub text_of : Status → List ℕ
text_of Done = []
text_of (Usage word) = codes "usage: " ++ word
text_of (ReadFault name) = codes "cannot read " ++ name
text_of (TooLong name) = name ++ codes " is too long"
text_of (Refused name why) = name ++ (codes ": " ++ cause_of why)
text_of (Profile fault) = profile_text fault
text_of (Inputs row) = codes "inputs row " ++ decimal row
text_of (Arrivals row) = codes "arrivals row " ++ decimal row
text_of (Limit what number) = limit_text what ++ decimal number
text_of (WriteFault name) = codes "cannot write " ++ name
text_of NoMemory = codes "out of memory"

-- `ccomp: `, the text and a line feed; nothing where the work is done
abbrev pub line_of : Status → List ℕ
line_of Done = []
line_of status = codes "ccomp: " ++ (text_of status ++ codes "\n")

-- whether the output may have been begun: a file, or what is said
abbrev pub may_write : Status → Bool
may_write Done = true
may_write (WriteFault name) = true
may_write (Usage word) = false
may_write (ReadFault name) = false
may_write (TooLong name) = false
may_write (Refused name why) = false
may_write (Profile fault) = false
may_write (Inputs row) = false
may_write (Arrivals row) = false
may_write (Limit what number) = false
may_write NoMemory = false

-- whether a limit is one of programs
abbrev pub is_of_programs : What → Bool
is_of_programs Count = false
is_of_programs Steps = false
is_of_programs Functions = true
is_of_programs Ram = true
is_of_programs Out = true

-- whether the number is above the limit of programs, or of what is printed of them
abbrev pub is_over : What → ℕ → Bool
is_over Functions n = nat_lt 4096 n
is_over Ram n = nat_lt 65536 n
is_over Out n = nat_lt 16777216 n
is_over Count n = false
is_over Steps n = false

-- whether an answer has its cause in the files that a command reads
abbrev pub is_of_files : Status → Bool
is_of_files Done = false
is_of_files (WriteFault name) = false
is_of_files (Usage word) = false
is_of_files (ReadFault name) = true
is_of_files (TooLong name) = true
is_of_files (Refused name why) = true
is_of_files (Profile fault) = true
is_of_files (Inputs row) = true
is_of_files (Arrivals row) = true
is_of_files (Limit what number) = is_of_programs what
is_of_files NoMemory = false

-- ---- the status for each fault of the parts; want of memory is always a status of its own

abbrev pub for_unread : Unread → Status
for_unread (unread.ReadFault name) = ReadFault name
for_unread (unread.TooLong name) = TooLong name
for_unread unread.NoMemory = NoMemory

abbrev pub for_profile : ProfileFault → Status
for_profile (profile.Row row rule) = Profile (profile.Row row rule)
for_profile profile.NoMemory = NoMemory

abbrev pub for_refusal : List ℕ → ReadRefusal → Status
for_refusal name why.NoMemory = NoMemory
for_refusal name e = Refused name e
