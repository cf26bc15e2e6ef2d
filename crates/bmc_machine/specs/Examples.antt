-- Scripts with known answers, built of named parts.
use Rattle.std.specs.Prelude.{ℕ, List, ◌++◌, codes}
use Rattle.bmc_base.specs.Places.{Place}

-- a record with a board area: maker, product, serial number, and two empty fields
abbrev pub riser : List ℕ
riser = codes "01000001000000FE010300000000C341434DC452535231C25331C0C0C10000F5"

abbrev pub riser_fields : List ℕ
riser_fields = codes " BOARD_MANUFACTURER=\"ACM\" BOARD_PRODUCT_NAME=\"RSR1\" BOARD_SERIAL_NUMBER=\"S1\" BOARD_PART_NUMBER=\"\" BOARD_FRU_VERSION_ID=\"\""

-- a record with a chassis area and a custom field
abbrev pub chassis : List ℕ
chassis = codes "01000100000000FE010217C25031C25332C25831C1000050"

abbrev pub chassis_fields : List ℕ
chassis_fields = codes " CHASSIS_TYPE=\"23\" CHASSIS_PART_NUMBER=\"P1\" CHASSIS_SERIAL_NUMBER=\"S2\" CHASSIS_INFO_AM1=\"X1\""

-- the riser with a product area whose sum is wrong
abbrev pub damaged : List ℕ
damaged = codes "01000001040000FA010300000000C341434DC452535231C25331C0C0C10000F5010100C10000003E"

-- a record without areas
abbrev pub bare : List ℕ
bare = codes "01000000000000FF"

-- a configuration that is always found, and one that its operators never find
abbrev pub always_found : List ℕ
always_found = codes "{\"Name\":\"A\",\"Probe\":\"TRUE\"}"

abbrev pub never_found : List ℕ
never_found = codes "{\"Name\":\"N\",\"Probe\":[\"TRUE\",\"OR\",\"TRUE\",\"AND\",\"FALSE\"]}"

-- two that ask for the one that is always found, to stand before it and behind it
abbrev pub asks_before : List ℕ
asks_before = codes "{\"Name\":\"E\",\"Probe\":\"FOUND('A')\"}"

abbrev pub asks_behind : List ℕ
asks_behind = codes "{\"Name\":\"B\",\"Probe\":\"FOUND('A')\"}"

-- configurations that find each FRU, the first FRU, a chassis of type 23, and a riser by a regular expression
abbrev pub finds_any : List ℕ
finds_any = codes "{\"Name\":\"F\",\"Probe\":\"xyz.openbmc_project.FruDevice({})\"}"

abbrev pub finds_first : List ℕ
finds_first = codes "{\"Name\":\"F\",\"Probe\":[\"xyz.openbmc_project.FruDevice({})\",\"MATCH_ONE\"]}"

abbrev pub finds_chassis : List ℕ
finds_chassis = codes "{\"Name\":\"C\",\"Probe\":\"xyz.openbmc_project.FruDevice({'CHASSIS_TYPE': 23})\"}"

abbrev pub finds_riser : List ℕ
finds_riser = codes "{\"Name\":\"R\",\"Probe\":\"xyz.openbmc_project.FruDevice({'BOARD_PRODUCT_NAME': 'RSR'})\"}"

-- one that opens bus 20
abbrev pub opens_20 : List ℕ
opens_20 = codes "{\"Name\":\"M\",\"Probe\":\"TRUE\",\"Exposes\":[{\"Name\":\"X\",\"Type\":\"Mux\",\"Channels\":[20]}]}"

-- one that opens the bus 60 below the address of a FRU that it finds
abbrev pub opens_below : List ℕ
opens_below =
    codes "{\"Name\":\"W\",\"Probe\":\"xyz.openbmc_project.FruDevice({})\",\"Exposes\":[{\"Name\":\"X\",\"Type\":\"Mux\",\"Channels\":[\"$address - 60\"]}]}"

-- one with a fan at each FRU, with the address of the FRU in its name
abbrev pub names_fans : List ℕ
names_fans = codes "{\"Name\":\"F\",\"Probe\":\"xyz.openbmc_project.FruDevice({})\",\"Exposes\":[{\"Name\":\"Fan $address - 79\",\"Type\":\"Fan\"}]}"

-- one with a sensor, and one with a sensor whose alarm goes on at 2 and off below 1
abbrev pub has_sensor : List ℕ
has_sensor = codes "{\"Name\":\"A\",\"Probe\":\"TRUE\",\"Exposes\":[{\"Name\":\"T\",\"Type\":\"Sensor\"}]}"

abbrev pub has_alarm : List ℕ
has_alarm =
    codes "{\"Name\":\"A\",\"Probe\":\"TRUE\",\"Exposes\":[{\"Name\":\"T\",\"Type\":\"Sensor\",\"Thresholds\":["
    ++ codes "{\"Direction\":\"greater than\",\"Severity\":1,\"Value\":2,\"Hysteresis\":1}]}]}"

-- one with a sensor at each FRU, on the bus of the FRU
abbrev pub has_sensors : List ℕ
has_sensors =
    codes "{\"Name\":\"F\",\"Probe\":\"xyz.openbmc_project.FruDevice({})\",\"Exposes\":["
    ++ codes "{\"Name\":\"T\",\"Type\":\"Sensor\",\"Bus\":\"$bus\",\"Address\":76}]}"

-- one with a controller in zone Z, and one with this zone at each FRU
abbrev pub has_controller : List ℕ
has_controller =
    codes "{\"Name\":\"C\",\"Probe\":\"TRUE\",\"Exposes\":[{\"Name\":\"P\",\"Type\":\"Stepwise\","
    ++ codes "\"Zones\":[\"Z\"],\"Inputs\":[\"T\"],\"Reading\":[0],\"Output\":[20]}]}"

abbrev pub has_zones : List ℕ
has_zones =
    codes "{\"Name\":\"F\",\"Probe\":\"xyz.openbmc_project.FruDevice({})\",\"Exposes\":["
    ++ codes "{\"Name\":\"Z\",\"Type\":\"Pid.Zone\",\"MinThermalOutput\":0,\"FailSafePercent\":80}]}"

-- one whose probe has no word, one with a controller that lacks a member, and one with a name that is no template
abbrev pub no_word : List ℕ
no_word = codes "{\"Name\":\"A\",\"Probe\":\"TRU\"}"

abbrev pub no_class : List ℕ
no_class = codes "{\"Name\":\"A\",\"Probe\":\"TRUE\",\"Exposes\":[{\"Name\":\"X\",\"Type\":\"Pid\"}]}"

abbrev pub no_template : List ℕ
no_template = codes "{\"Name\":\"A\",\"Probe\":\"TRUE\",\"Exposes\":[{\"Name\":\"$foo\",\"Type\":\"Fan\"}]}"

abbrev pub newline : List ℕ
newline = codes "\n"

-- the lines of a script
abbrev pub plug : List ℕ → List ℕ → List ℕ
plug place record_digits = codes "plug " ++ place ++ codes " " ++ record_digits ++ newline

abbrev pub unplug : List ℕ → List ℕ
unplug place = codes "unplug " ++ place ++ newline

abbrev pub config : List ℕ → List ℕ → List ℕ
config size document = codes "config " ++ size ++ newline ++ document ++ newline

abbrev pub read : List ℕ → List ℕ
read words = codes "read " ++ words ++ newline

abbrev pub lose : List ℕ → List ℕ
lose name = codes "lose " ++ name ++ newline

abbrev pub show : List ℕ → List ℕ
show topic = codes "show " ++ topic ++ newline

-- the lines that are printed
abbrev pub fru : List ℕ → List ℕ → List ℕ
fru place fields = codes "fru " ++ place ++ fields ++ newline

abbrev pub refused : List ℕ → List ℕ → List ℕ
refused number reason = codes "line " ++ number ++ codes " refused " ++ reason ++ newline

abbrev pub bus_1_80 : List ℕ
bus_1_80 = codes "1 80"

abbrev pub bus_1_81 : List ℕ
bus_1_81 = codes "1 81"

abbrev pub bus_1_79 : List ℕ
bus_1_79 = codes "1 79"

abbrev pub bus_2_79 : List ℕ
bus_2_79 = codes "2 79"

-- a bus that is visible where a configuration opens it
abbrev pub bus_20_80 : List ℕ
bus_20_80 = codes "20 80"

-- the places of these
abbrev pub place_1_79 : Place
place_1_79 = record { bus = 1; address = 79 }

abbrev pub place_1_80 : Place
place_1_80 = record { bus = 1; address = 80 }

abbrev pub place_1_81 : Place
place_1_81 = record { bus = 1; address = 81 }

-- FRUs at three places, of which the second is taken away before the third is plugged
abbrev pub three_frus : List ℕ
three_frus = config (codes "56") finds_any ++ plug bus_1_80 riser ++ plug bus_1_81 riser ++ unplug bus_1_81 ++ plug bus_1_79 riser
