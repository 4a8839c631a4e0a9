-- Which words are an order. The first word is the command; its options stand anywhere behind it, and the other words are
-- its arguments. Each option and each command has its line in the tables here.
use Rattle.std.specs.Prelude.{ℕ, Bool, not, ◌||◌, ◌<◌, ◌≤◌, if◌then◌else◌, List, [], ◌∷◌, Option, Some, None, codes, option_and_then, option_map}
use Rattle.std.specs.List.{list_all, list_any}
use Rattle.std.specs.Option.{is_some}
use Rattle.std.specs.Str.{bytes_eq}
use Rattle.pads_frame.specs.Fits.{FitsLimit}
use Rattle.pads_erase.specs.declared.mask.Mask.{Mask}
use Rattle.pads_orders.specs.declared.order.Command.{Command}
use Rattle.pads_orders.specs.declared.order.Command.TheVariants as command
use Rattle.pads_orders.specs.declared.order.Cutting.{Cutting}
use Rattle.pads_orders.specs.declared.order.OptionName.{OptionName}
use Rattle.pads_orders.specs.declared.order.OptionName.TheVariants as option
use Rattle.pads_orders.specs.declared.order.Order.{Order}
use Rattle.pads_orders.specs.declared.order.Order.TheVariants as order
use Rattle.pads_orders.specs.declared.order.Question.{Question}
use Rattle.pads_orders.specs.declared.order.Settings.{Settings}
use Rattle.pads_orders.specs.Masks.{mask_of}
use Rattle.pads_orders.specs.Numbers.{count_to, number_to}
use Rattle.pads_orders.specs.Options.{is_option, arguments, behind, values, once, coding_of, max_of, records_of, greatest_max}

-- how each option begins
abbrev pub beginning : OptionName → List ℕ
beginning option.Coding = codes "--coding="
beginning option.Jobs = codes "--jobs="
beginning option.Mask = codes "--mask="
beginning option.Max = codes "--max="
beginning option.Records = codes "--records="
beginning option.Scan = codes "--scan="
beginning option.Top = codes "--top="

-- the value that it has where it isn't given
abbrev pub usual : OptionName → List ℕ
usual option.Coding = codes "ascii"
usual option.Jobs = codes "1"
usual option.Mask = codes "both"
usual option.Max = codes "1048576"
usual option.Records = codes "nl"
usual option.Scan = codes "16777216"
usual option.Top = codes "10"

-- what comes of a value that is there
abbrev pub given : {A B : Type 0} → Option A → (A → Option B) → Option B
given value next = option_and_then next value

-- the value of an option, of which none is there where it is given again
abbrev pub value_in : OptionName → List (List ℕ) → Option (List ℕ)
value_in name words = once (usual name) (values (beginning name) words)

abbrev pub setting : {A : Type 0} → OptionName → (List ℕ → Option A) → List (List ℕ) → Option A
setting name read words = given (value_in name words) read

-- the most values of a part that a summary tells
abbrev pub greatest_top : ℕ
greatest_top = 1000

-- the most workers that read at the same time
abbrev pub greatest_jobs : ℕ
greatest_jobs = 64

-- the most bytes that a search passes over
abbrev pub greatest_scan : ℕ
greatest_scan = 16777216

-- what the value of each option comes to but for the mask
abbrev pub settings_in : List (List ℕ) → Option Settings
settings_in words =
    given (setting option.Coding coding_of words) (λ coding.
    given (setting option.Jobs (number_to greatest_jobs) words) (λ jobs.
    given (setting option.Max max_of words) (λ max.
    given (setting option.Records (records_of max) words) (λ discipline.
    given (setting option.Scan (count_to greatest_scan) words) (λ scan.
    given (setting option.Top (count_to greatest_top) words) (λ top.
    Some (record { coding = coding; cutting = record { discipline = discipline; max = max }; jobs = jobs; scan = scan; top = top })))))))

-- the mask
abbrev pub mask_in : List (List ℕ) → Option Mask
mask_in words = setting option.Mask mask_of words

-- the options that each command takes
abbrev pub options_of : Command → List OptionName
options_of command.Check = option.Coding ∷ []
options_of command.Parse = option.Coding ∷ option.Jobs ∷ option.Mask ∷ option.Max ∷ option.Records ∷ option.Scan ∷ []
options_of command.Print = option.Coding ∷ option.Jobs ∷ option.Max ∷ option.Records ∷ option.Scan ∷ []
options_of command.Query = option.Coding ∷ option.Jobs ∷ option.Mask ∷ option.Max ∷ option.Records ∷ option.Scan ∷ []
options_of command.Summary = option.Coding ∷ option.Jobs ∷ option.Mask ∷ option.Max ∷ option.Records ∷ option.Scan ∷ option.Top ∷ []
options_of command.Selftest = option.Jobs ∷ []

-- the command of this name
abbrev pub command_of : List ℕ → Option Command
command_of name =
    if bytes_eq name (codes "check") then Some command.Check
    else if bytes_eq name (codes "parse") then Some command.Parse
    else if bytes_eq name (codes "print") then Some command.Print
    else if bytes_eq name (codes "summary") then Some command.Summary
    else if bytes_eq name (codes "query") then Some command.Query
    else if bytes_eq name (codes "selftest") then Some command.Selftest
    else None

-- the one argument
abbrev pub only : List (List ℕ) → Option (List ℕ)
only [] = None
only (word ∷ []) = Some word
only (word ∷ other ∷ more) = None

-- The name of a description's file isn't empty.
abbrev pub name_in : List ℕ → Option (List ℕ)
name_in [] = None
name_in (letter ∷ name) = Some (letter ∷ name)

abbrev pub description_of : List (List ℕ) → Option (List ℕ)
description_of arguments = given (only arguments) name_in

-- A file and a path, which aren't empty.
abbrev pub question : (description path : List ℕ) → Option (List ℕ) → Option Question
question description path filter =
    given (name_in description) (λ description. option_map (λ path. record { description = description; path = path; filter = filter }) (name_in path))

-- what a query asks: a description's file, a path and maybe a filter
abbrev pub question_of : List (List ℕ) → Option Question
question_of [] = None
question_of (description ∷ []) = None
question_of (description ∷ path ∷ []) = question description path None
question_of (description ∷ path ∷ filter ∷ []) = question description path (Some filter)
question_of (description ∷ path ∷ filter ∷ other ∷ more) = None

-- the most records that are made for a self-test
abbrev pub greatest_test : ℕ
greatest_test = 1000000

-- It is the number of the records.
abbrev pub records_asked : List (List ℕ) → Option ℕ
records_asked arguments = given (only arguments) (count_to greatest_test)

-- the order that a command is with these arguments and options
abbrev pub order_with : Command → List (List ℕ) → Settings → Mask → Option Order
order_with command.Check arguments settings mask = option_map (λ description. order.Check description settings) (description_of arguments)
order_with command.Parse arguments settings mask = option_map (λ description. order.Parse description settings mask) (description_of arguments)
order_with command.Print arguments settings mask = option_map (λ description. order.Print description settings) (description_of arguments)
order_with command.Summary arguments settings mask = option_map (λ description. order.Summary description settings mask) (description_of arguments)
order_with command.Query arguments settings mask = option_map (λ question. order.Query question settings mask) (question_of arguments)
order_with command.Selftest arguments settings mask = option_map (λ records. order.Selftest records settings) (records_asked arguments)

-- A word is no option, or one of these.
abbrev pub is_one_of : List OptionName → List ℕ → Bool
is_one_of names word = not (is_option word) || list_any (λ name. is_some (behind (beginning name) word)) names

-- Each option is one of these.
abbrev pub has_only : List OptionName → List (List ℕ) → Bool
has_only names words = list_all (is_one_of names) words

-- what the options behind a command come to, each of which it takes
abbrev pub settings_for : Command → List (List ℕ) → Option Settings
settings_for asked words = if has_only (options_of asked) words then settings_in words else None

abbrev pub order_of : List (List ℕ) → Option Order
order_of [] = None
order_of (name ∷ words) =
    given (command_of name) (λ asked.
    given (settings_for asked words) (λ settings.
    given (mask_in words) (λ mask.
    order_with asked (arguments words) settings mask)))

-- A record has one byte at least and 16,777,216 at most, and a block isn't longer than a record may be.
pub record IsWithinLimits (cutting : Cutting) : Type 0 where
  pub some : 0 < cutting.max
  pub limit : cutting.max ≤ greatest_max
  pub fits : FitsLimit cutting.discipline cutting.max

-- At least one worker reads, and at most 64 do.
pub record AreFewJobs (jobs : ℕ) : Type 0 where
  pub some : 0 < jobs
  pub few : jobs ≤ greatest_jobs

-- What the settings of each order keep.
pub record KeepSettings (settings : Settings) : Type 0 where
  pub cutting : IsWithinLimits settings.cutting
  pub jobs : AreFewJobs settings.jobs
  pub scan : settings.scan ≤ greatest_scan

-- What each order keeps.
abbrev pub KeepsLimits : Order → Type 0
KeepsLimits (order.Check description settings) = KeepSettings settings
KeepsLimits (order.Parse description settings mask) = KeepSettings settings
KeepsLimits (order.Print description settings) = KeepSettings settings
KeepsLimits (order.Summary description settings mask) = KeepSettings settings
KeepsLimits (order.Query question settings mask) = KeepSettings settings
KeepsLimits (order.Selftest records settings) = KeepSettings settings × (records ≤ greatest_test)
