pub mod TrackMaps
